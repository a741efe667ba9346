use Rattle.std.proofs.Common.{◌∙◌, arith, below_more}
use Rattle.std.proofs.lemmas.List.{get_or-set_same, get_or-set_other}
use Rattle.graphs.proofs.bits.clear.Goals as goal

pub loop-i-preserved : goal.loop-i-preserved
loop-i-preserved c =
    let m = c.loop-i.m in
    let i = c.loop-i.i in (
      below_more _ _ (λ k h. get_or-set_other m i k 0 0 (omega arith) ∙ c.loop-i.invariant.0 k h) (get_or-set_same m i 0 0 (omega arith)),
      λ k h. get_or-set_other m i k 0 0 (omega arith) ∙ c.loop-i.invariant.1 k (omega arith),
    )
