use Rattle.graphs.proofs.Closing.{closure_of_drawn}
use Rattle.graphs.proofs.reach.reachable.Goals as goal

pub returns : goal.returns
returns g c = closure_of_drawn _ _ c.draw.ensures (g.G.Graph.inside c.args.g.now) _ c.close.ensures
