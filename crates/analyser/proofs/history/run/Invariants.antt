use Rattle.std.proofs.Common.{◌≡◌, take, vec_items}
use Rattle.analyser.specs.Histories.{History, book_from}
use Rattle.analyser.specs.States.{book_of}
use Rattle.analyser.proofs.history.run.Given as goal

-- the calls so far are a history, and the analyser stands where their book says
abbrev pub invariant-loop-c : goal.invariant-loop-c
invariant-loop-c l =
    let calls = take l.c-index l.calls in
    (History (book_of l.initial.analyser) calls (vec_items l.replies))
    × (book_of l.analyser ≡ book_from (book_of l.initial.analyser) calls)
