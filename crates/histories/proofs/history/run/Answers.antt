use Rattle.std.proofs.Common.{vec_items, ◌∙◌}
use Rattle.host_analyser.specs.States.{book_of}
use Rattle.histories.proofs.Runs.{turn_book, turn_reply}
use Rattle.histories.proofs.history.run.Goals as goal

pub loop-c-preserved : goal.loop-c-preserved
loop-c-preserved g c =
    let meaning = g.E.Engine.meaning in
    let rule = (meaning c.args.analyser.now.engine).rule in
    let start = book_of c.args.analyser.now in
    let calls = c.args.calls.now in
    let i = c.loop-c.c-index in
    let inv = c.loop-c.invariant in
    let here = (meaning c.loop-c.analyser.engine).rule in
    let b = book_of c.loop-c.analyser in (
      turn_reply rule start calls i c.loop-c-test.true here inv.2 b inv.1 (vec_items c.loop-c.replies) (vec_items c.push.new.self) c.in_ok-make.field-0
          c.in_ok-push.ensures.items inv.0 c.in_ok-make.ensures.says,
      turn_book rule start calls i c.loop-c-test.true here inv.2 b inv.1 (book_of c.make.new.analyser) c.make.ensures.after,
      c.make.ensures.rule ∙ inv.2,
    )
