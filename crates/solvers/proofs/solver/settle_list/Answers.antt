use Rattle.std.proofs.lemmas.Result.{err_from_is_err_and}
use Rattle.std.proofs.Common.{rules, ◌<◌, length, refl, ap, ◌∙◌, arith}
use Rattle.constraints.specs.Least.{least}
use Rattle.constraints.specs.Lists.{system_of}
use Rattle.constraints.proofs.Solver.{first_all}
use Rattle.solvers.proofs.Words.{none_least, none_fits, overfull_as}
use Rattle.solvers.proofs.solver.settle_list.Goals as goal

pub loop-i-init : goal.loop-i-init
loop-i-init g c =
    (c.restart.ensures.empties ∙ none_least (system_of c.args.list.now), none_fits _ _ c.restart.ensures.empties, c.restart.ensures.rests, refl)

pub take_in-requires : goal.take_in-requires
take_in-requires g c =
    record { place = rw (← c.words-i-end.ensures.value) c.loop-i-test.true; rests = c.loop-i.invariant.2; so_far = c.loop-i.invariant.0; fits = rw (← c.loop-i.invariant.3) at c.loop-i.invariant.1 }

pub returns-in_err-map_err : goal.returns-in_err-map_err
returns-in_err-map_err g c =
    let p = g.P.Propagation in
    let sys = system_of c.args.list.now in
    let inv = c.loop-i.invariant in
    let i_in : c.loop-i.i-counter < length sys.words = rw (← c.words-i-end.ensures.value) c.loop-i-test.true in
    let same = inv.3 ∙ c.restart.ensures.fixed in
    let told = c.take_in.ensures in
    let exit = err_from_is_err_and c.from_residual.result c.from_residual.ensures.1 in
    record {
      settles = rw (exit.1, exit.2) (rw same at (overfull_as _ sys _ (p.rows c.take_in.new.self) (p.idle c.take_in.new.self) c.loop-i.i-counter c.take_in.result c.map_err.result _ _
          i_in inv.0 (rw (← inv.3) at inv.1) told.takes c.map_err.ensures.cases (λ e s h. search rules) c.in_err-map_err.was));
      fixed = told.fixed ∙ same;
    }

pub returns : goal.returns
returns g c =
    let sys = system_of c.args.list.now in
    let inv = c.loop-i.invariant in
    let past = rw c.words-i-end.ensures.value at c.loop-i-test.false in
    let whole = inv.0 ∙ ap least (first_all c.loop-i.i-counter sys (omega (arith, past))) in
    let same = inv.3 ∙ c.restart.ensures.fixed in
    record {
      settles = (whole, rw (whole, c.restart.ensures.fixed) at inv.1);
      fixed = same;
    }
