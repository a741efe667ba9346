use Rattle.std.proofs.Common.{◌∙◌}
use Rattle.layers.proofs.Delegating.{layer_size}
use Rattle.layers.proofs.merging.MergingEngine.size.Goals as goal

pub returns-clause-replies : goal.returns-clause-replies
returns-clause-replies g c =
    let s = c.args.self.now in
    c.size.ensures.replies
    ∙ layer_size g.M.Merge.same g.M.Merge.right (g.E.Engine.meaning s.below) s.plan c.args.v c.in_ok-rep.rep s.settled s.handed c.in_ok-rep.ensures
