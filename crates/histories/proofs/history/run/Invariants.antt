use Rattle.std.proofs.Common.{◌≡◌, take, vec_items}
use Rattle.histories.specs.Books.{book_from}
use Rattle.histories.specs.Histories.{History}
use Rattle.host_analyser.specs.States.{book_of}
use Rattle.histories.proofs.history.run.Given as goal

-- the calls so far are a history, and the analyser stands where their book says
abbrev pub invariant-loop-c : goal.invariant-loop-c
invariant-loop-c g l =
    let meaning = g.E.Engine.meaning in
    let rule = (meaning l.initial.analyser.engine).rule in
    let calls = take l.c-index l.calls in
    (History rule (book_of l.initial.analyser) calls (vec_items l.replies))
    × (book_of l.analyser ≡ book_from rule (book_of l.initial.analyser) calls)
    × ((meaning l.analyser.engine).rule ≡ rule)
