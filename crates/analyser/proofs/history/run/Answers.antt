use Rattle.std.proofs.Common.{vec_items}
use Rattle.analyser.specs.States.{book_of}
use Rattle.analyser.proofs.Runs.{turn_book, turn_reply}
use Rattle.analyser.proofs.history.run.Goals as goal

pub loop-c-preserved : goal.loop-c-preserved
loop-c-preserved c =
    let start = book_of c.args.analyser.now in
    let calls = c.args.calls.now in
    let i = c.loop-c.c-index in
    let b = book_of c.loop-c.analyser in
    let inv = c.loop-c.invariant in (
      turn_reply start calls i c.loop-c-test.true b inv.1 (vec_items c.loop-c.replies) (vec_items c.push.new.self) c.make.result c.in_ok-push.ensures.items inv.0 c.make.ensures.says,
      turn_book start calls i c.loop-c-test.true b inv.1 (book_of c.make.new.analyser) c.make.ensures.after,
    )
