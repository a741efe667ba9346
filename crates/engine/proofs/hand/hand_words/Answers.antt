use Rattle.std.proofs.Common.{get_or, ap, ◌∙◌}
use Rattle.engine.specs.Meanings.{add_answer}
use Rattle.engine.proofs.Handing.{word_taken}
use Rattle.engine.proofs.hand.hand_words.Goals as goal

pub returns-in_err-add : goal.returns-in_err-add
returns-in_err-add g c =
    let ws = c.args.words.now in
    let i = c.loop-word.word-index in
    let ok = word_taken (g.E.Engine.meaning c.args.below.now) c.args.blocks.now ws i c.loop-word-test.true c.requires.valid in
    let told = c.add.ensures.replies ∙ ap (λ m. add_answer m (get_or ws i 0)) c.loop-word.invariant ∙ ok in
    let err = c.in_err-add.was in
    absurd cc
