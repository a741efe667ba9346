use Rattle.std.proofs.Common.{◌≡◌, length, ap, ◌∙◌, arith}
use Rattle.std.proofs.lemmas.List.{take_at}
use Rattle.host_analyser.specs.Replies.{targets_reply, targets_buffer}
use Rattle.host_analyser.specs.States.{book_of}
use Rattle.host_analyser.proofs.Right.{right_of}
use Rattle.histories.proofs.Listed.{targets_say}
use Rattle.histories.proofs.history.list.Goals as goal

pub returns-clause-says : goal.returns-clause-says
returns-clause-says g c =
    let b = book_of c.args.analyser.now in
    let before = c.args.before.now in
    let called = c.targets-outcome.ensures in
    let copied = c.in_ok-buffer.ensures in
    let same = c.deref_mut.ensures.value ∙ copied.items_if_clones_equal (λ x y e. e) in
    let whole : length c.targets-outcome.new.buffer ≡ c.in_ok-buffer.buffer.len = omega (arith, c.targets-outcome.auto.buffer, ap length same, copied.len) in
    targets_say b (λ e. (right_of (c.args.analyser.now.in_step e)).lawful) c.args.unit c.args.index before _ (
      called.replies ∙ ap (targets_reply b c.args.unit c.args.index) same,
      take_at c.targets-outcome.new.buffer _ _ whole ∙ called.writes ∙ ap (targets_buffer b c.args.unit c.args.index) same,
    )
