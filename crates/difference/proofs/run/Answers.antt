use Rattle.std.proofs.Common.{refl, ◌∙◌, arith}
use Rattle.std.proofs.lemmas.Result.{err_from_is_err_and}
use Rattle.constraints.specs.Lists.{system_of}
use Rattle.walks.proofs.Growth.{grows_then, grows_moved, grown_moved, grown_refused, any_onward}
use Rattle.difference.proofs.Runs.{Advanced, effort_falls, ready_again, idle_solves, idle_from}
use Rattle.difference.proofs.run.Goals as goal

pub loop-pair-smaller : goal.loop-pair-smaller
loop-pair-smaller g c =
    let heads = c.in-Some.ensures in
    let adv : Advanced c.loop-pair.work.pending c.advance.new.self =
    record { pairs = c.advance.ensures.pairs; head = c.advance.ensures.head; tail = c.advance.ensures.tail } in
    let noted = c.hand_on.ensures.grows.noted (omega (arith, adv.tail, c.loop-pair.invariant.0.counted)) in
    effort_falls (system_of c.args.list.now) _ _ _ _ _ _ _ _ heads adv noted

pub loop-pair-preserved : goal.loop-pair-preserved
loop-pair-preserved g c =
    let sys = system_of c.args.list.now in
    let inv = c.loop-pair.invariant in
    let heads = c.in-Some.ensures in
    let adv : Advanced c.loop-pair.work.pending c.advance.new.self =
    record { pairs = c.advance.ensures.pairs; head = c.advance.ensures.head; tail = c.advance.ensures.tail } in
    let noted = c.hand_on.ensures.grows.noted (omega (arith, adv.tail, inv.0.counted)) in
    let done = c.in_ok-hand_on.ensures in (
      ready_again sys _ _ _ _ _ _ _ _ heads adv noted inv.0 done.ends,
      grows_then any_onward _ _ _ c.loop-pair.work _ inv.1 (λ R m h. rw inv.2 m) (grows_moved _ c.loop-pair.work _ _ refl refl done.grows),
      noted.same ∙ inv.2,
    )

pub returns-in_err-hand_on : goal.returns-in_err-hand_on
returns-in_err-hand_on g c =
    let inv = c.loop-pair.invariant in
    let exit = err_from_is_err_and c.from_residual.result c.from_residual.ensures.1 in
    grown_refused any_onward _ _ _ c.loop-pair.work _ inv.1 (λ R m h. rw inv.2 m)
    _ _ _ _ (grown_moved _ c.loop-pair.work _ _ refl refl _ _ c.in_err-hand_on.ensures) (rw (exit.1, exit.2))

pub returns : goal.returns
returns g c =
    let inv = c.loop-pair.invariant in
    let rest = idle_from _ _ c.in_default.ensures inv.0.counted in
    record { grows = inv.1; ends = (rw (← inv.2) (idle_solves (system_of c.args.list.now) _ _ _ inv.0 rest.none), rest) }
