use Rattle.std.proofs.Common.{rules}
use Rattle.constraints.specs.Lists.{system_of}
use Rattle.walks.proofs.Visits.{grown_calls}
use Rattle.difference.specs.Handed.{PutAt}
use Rattle.difference.proofs.spread.store_each.Goals as goal

pub returns : goal.returns
returns g c =
    let sys = system_of c.args.list.now in
    grown_calls (g.met.G.Grower.still sys) (g.met.G.Grower.onward sys) c.args.p (λ y. PutAt sys.blocks y c.args.k c.args.object)
    (λ y P P' R R' l m h lt. m _ _ (h lt)) (λ a y r b met. search rules) c.for_each_object.ensures
