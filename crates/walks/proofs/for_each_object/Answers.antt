use Rattle.std.proofs.Common.{refl, arith}
use Rattle.std.proofs.lemmas.Result.{err_from_is_err_and}
use Rattle.walks.specs.Visits.{Visits, over, stopped, onward}
use Rattle.walks.proofs.for_each_object.Goals as goal

pub returns-in_err-visit : goal.returns-in_err-visit
returns-in_err-visit g c =
    let next = (rw c.in-Some.is at c.in_ok-o.ensures).0 in
    let exit = err_from_is_err_and c.from_residual-in_err-visit.result c.from_residual-in_err-visit.ensures.1 in
    let seen : Visits g.F.Fn c.args.visit c.loop-visit.g c.in-Some.o c.visit.result c.visit.new.arg2 =
    record { shown = _; shows = refl; left = _; leaves = refl; met = c.visit.ensures } in
    rw (exit.1, exit.2) (c.loop-visit.invariant.0 _ _ (stopped next (rw c.in_err-visit.was at seen)))

pub loop-visit-preserved : goal.loop-visit-preserved
loop-visit-preserved g c =
    let next = (rw c.in-Some.is at c.in_ok-o.ensures).0 in
    let seen : Visits g.F.Fn c.args.visit c.loop-visit.g c.in-Some.o c.visit.result c.visit.new.arg2 =
    record { shown = _; shows = refl; left = _; leaves = refl; met = c.visit.ensures } in
    (λ t r later. c.loop-visit.invariant.0 t r (onward next (rw c.in_ok-visit.was at seen) later), omega (arith, next.object))

pub returns : goal.returns
returns g c = c.loop-visit.invariant.0 _ _ (over (rw c.in_default.is at c.in_ok-o.ensures).0)
