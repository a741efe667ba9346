use Rattle.std.proofs.Common.{get_or, ap, ◌∙◌, arith}
use Rattle.std.proofs.lemmas.Result.{err_from_is_err_and}
use Rattle.constraints.specs.Constraint.{decode}
use Rattle.constraints.specs.Lists.{system_of}
use Rattle.constraints.proofs.Sound.{list_valid}
use Rattle.walks.proofs.Fronts.{word_below}
use Rattle.difference.proofs.Runs.{ready_next}
use Rattle.difference.proofs.Taken.{walk_refused, walk_then}
use Rattle.difference.proofs.DifferencePropagation.take_in.Goals as goal

pub overflow_add-self : goal.overflow_add-self
overflow_add-self g c = omega (arith, c.requires.place, (list_valid c.args.list.now).few_words)

pub walk-requires : goal.walk-requires
walk-requires g c =
    let sys = system_of c.args.list.now in
    let is = c.decode.ensures.value ∙ ap (λ ws. decode (get_or ws c.args.i 0)) c.words.ensures.value in
    record { known = rw is (word_below sys c.words.ensures.valid c.args.i c.requires.place) }

pub returns-in_err-walk : goal.returns-in_err-walk
returns-in_err-walk g c =
    let store = g.S.RowStore in
    let sys = system_of c.args.list.now in
    let is = c.decode.ensures.value ∙ ap (λ ws. decode (get_or ws c.args.i 0)) c.words.ensures.value in
    let exit = err_from_is_err_and c.from_residual.result c.from_residual.ensures.1 in
    let walked = c.in_err-walk.ensures in
    record {
      takes = walk_refused (λ d. store.pairs d.store) (λ d. store.room d.store) _ sys c.args.i c.decode.result _ _ c.requires.place is c.requires.so_far c.requires.fits
          _ _ _ c.from_residual.result walked (rw (exit.1, exit.2));
      fixed = walked.grows.same_limit;
    }

pub run-requires : goal.run-requires
run-requires g c =
    let sys = system_of c.args.list.now in
    let is = c.decode.ensures.value ∙ ap (λ ws. decode (get_or ws c.args.i 0)) c.words.ensures.value in
    let done = c.in_ok-walk.ensures in
    record { ready = ready_next sys c.args.i _ _ _ _ _ c.requires.place c.requires.so_far c.requires.rests (done.grows.noted c.requires.rests.counted) (rw is at done.ends) }

pub returns : goal.returns
returns g c =
    let store = g.S.RowStore in
    let sys = system_of c.args.list.now in
    let is = c.decode.ensures.value ∙ ap (λ ws. decode (get_or ws c.args.i 0)) c.words.ensures.value in
    let walked = c.walk.ensures.grows in
    record {
      takes = walk_then (λ d. store.pairs d.store) (λ d. store.room d.store) _ sys c.args.i c.decode.result _ _ c.requires.place is c.requires.so_far c.requires.fits
          _ _ _ c.run.result (walked.noted c.requires.rests.counted).same walked c.run.ensures;
      fixed = c.run.ensures.grows.same_limit ∙ walked.same_limit;
    }
