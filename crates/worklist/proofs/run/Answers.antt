use Rattle.std.proofs.Common.{◌≡◌, ℕ, Bool, true, get_or, refl, ap, ◌∙◌, arith}
use Rattle.std.proofs.lemmas.Result.{err_from_is_err_and}
use Rattle.constraints.specs.Rows.{Rows, pairs}
use Rattle.constraints.specs.Constraint.{System, decode, constraint, Solves, Meets, first}
use Rattle.constraints.specs.declared.constraint.Constraint.{Constraint}
use Rattle.constraints.specs.Lists.{system_of}
use Rattle.walks.proofs.Growth.{grows_then, grows_moved, grown_moved, grown_refused, any_onward}
use Rattle.walks.proofs.Fronts.{word_below, met_first}
use Rattle.worklist.specs.Waits.{Ready}
use Rattle.worklist.proofs.Runs.{effort_falls, ready_again, idle_solves}
use Rattle.worklist.proofs.run.Goals as goal

-- a solution of the words taken in meets each of them
leads : (sys : System) (n m j : ℕ) (P : Rows) (W : ℕ → Bool) (c : Constraint) → Ready sys m P W → m ≡ n → W j ≡ true → c ≡ constraint sys j
    → (R : Rows) → Solves (first n sys) R → Meets sys.blocks c (pairs R)
leads sys n m j P W c ready same w is R solves =
    let lt = ready.inside j w in rw is (met_first sys n R solves j (omega arith) (omega (arith, ready.short)))

pub walk-requires : goal.walk-requires
walk-requires g c =
    let sys = system_of c.args.list.now in
    let j = c.in-Some.j in
    let is = c.decode.ensures.value ∙ ap (λ ws. decode (get_or ws j 0)) c.words.ensures.value in
    let lt = c.loop-j.invariant.0.inside j c.in-Some.ensures.1 in
    record { known = rw is (word_below sys c.words.ensures.valid j (omega (arith, lt, c.loop-j.invariant.0.short))) }

pub loop-j-smaller : goal.loop-j-smaller
loop-j-smaller g c =
    let waits_j = c.in-Some.ensures in
    effort_falls (system_of c.args.list.now) _ _ c.in-Some.j _ _ _ _ _ waits_j.0 waits_j.1 c.remove.ensures c.walk.ensures.grows.noted

pub loop-j-preserved : goal.loop-j-preserved
loop-j-preserved g c =
    let sys = system_of c.args.list.now in
    let j = c.in-Some.j in
    let inv = c.loop-j.invariant in
    let waits_j = c.in-Some.ensures in
    let is = c.decode.ensures.value ∙ ap (λ ws. decode (get_or ws j 0)) c.words.ensures.value in
    let noted = c.walk.ensures.grows.noted in (
      ready_again sys _ _ j _ _ _ _ _ waits_j.0 waits_j.1 c.remove.ensures noted inv.0 (rw is at c.in_ok-walk.ensures.ends),
      grows_then any_onward _ _ _ c.loop-j.work _ inv.1 (λ R m h. leads sys _ _ j _ _ _ inv.0 inv.2 waits_j.1 is R m)
          (grows_moved _ c.loop-j.work _ _ refl refl c.walk.ensures.grows),
      noted.same ∙ inv.2,
    )

pub returns-in_err-walk : goal.returns-in_err-walk
returns-in_err-walk g c =
    let sys = system_of c.args.list.now in
    let j = c.in-Some.j in
    let inv = c.loop-j.invariant in
    let is = c.decode.ensures.value ∙ ap (λ ws. decode (get_or ws j 0)) c.words.ensures.value in
    let exit = err_from_is_err_and c.from_residual.result c.from_residual.ensures.1 in
    grown_refused any_onward _ _ _ c.loop-j.work _ inv.1 (λ R m h. leads sys _ _ j _ _ _ inv.0 inv.2 c.in-Some.ensures.1 is R m)
    _ _ _ _ (grown_moved _ c.loop-j.work _ _ refl refl _ _ c.in_err-walk.ensures) (rw (exit.1, exit.2))

pub returns : goal.returns
returns g c =
    let inv = c.loop-j.invariant in
    let rest = c.in_default.ensures in
    record { grows = inv.1; ends = (rw (← inv.2) (idle_solves (system_of c.args.list.now) _ _ _ inv.0 rest), rest) }
