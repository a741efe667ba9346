use Rattle.std.proofs.Common.{rules}
use Rattle.constraints.specs.Lists.{system_of}
use Rattle.walks.specs.Rules.{LoadFrom}
use Rattle.walks.proofs.Growth.{grown_weaker}
use Rattle.walks.proofs.Visits.{grown_calls}
use Rattle.walks.proofs.walk_load.Goals as goal

pub returns : goal.returns
returns g c =
    let sys = system_of c.args.list.now in
    grown_weaker _ _ _ _ _ _ (λ R m h o t lt x i. m o x t lt i) (λ d o x t lt i. d o t lt x i) _
    (grown_calls (g.met.G.Grower.still sys) (g.met.G.Grower.onward sys) c.args.q (λ o. LoadFrom sys.blocks c.args.p o c.args.k)
    (λ o P P' R R' l m h lt x i. m _ _ (h lt x (l _ _ i))) (λ a o r b met. search rules) c.for_each_object.ensures)
