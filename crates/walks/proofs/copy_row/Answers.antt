use Rattle.std.proofs.Common.{rules}
use Rattle.constraints.specs.Lists.{system_of}
use Rattle.walks.proofs.Visits.{grown_calls}
use Rattle.walks.proofs.copy_row.Goals as goal

pub returns : goal.returns
returns g c =
    let sys = system_of c.args.list.now in
    grown_calls (g.met.G.Grower.still sys) (g.met.G.Grower.onward sys) c.args.q (λ o P R. R c.args.p o) (λ o P P' R R' l m h. m _ _ h)
    (λ a o r b met. search rules) c.for_each_object.ensures
