use Rattle.std.proofs.Common.{arith}
use Rattle.graphs.proofs.Words.{joined_all, joining_more}
use Rattle.graphs.proofs.bits.join.Goals as goal

pub loop-i-preserved : goal.loop-i-preserved
loop-i-preserved c = joining_more _ _ _ _ _ _ c.loop-i.invariant (omega arith) (omega arith)

pub returns : goal.returns
returns c = joined_all _ _ _ _ _ _ c.loop-i.invariant (omega arith)
