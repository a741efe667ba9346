use Rattle.std.proofs.Common.{get_or, ap, ◌∙◌}
use Rattle.engine.specs.Meanings.{block_answer}
use Rattle.engine.proofs.Handing.{block_taken}
use Rattle.engine.proofs.hand.hand_blocks.Goals as goal

pub returns-in_err-block : goal.returns-in_err-block
returns-in_err-block g c =
    let bs = c.args.blocks.now in
    let i = c.loop-n.n-index in
    let ok = block_taken (g.E.Engine.meaning c.args.below.now) bs i c.loop-n-test.true c.requires.sized c.requires.few in
    let told = c.block.ensures.replies ∙ ap (λ m. block_answer m (get_or bs i 0)) c.loop-n.invariant ∙ ok in
    let err = c.in_err-block.was in
    absurd cc
