use Rattle.std.proofs.Common.{arith}
use Rattle.walks.proofs.Growth.{grown_weaker}
use Rattle.difference.proofs.spread.spread_copy.Goals as goal

pub returns-then-q-from : goal.returns-then-q-from
returns-then-q-from g c = grown_weaker _ _ _ _ _ _ (λ R m h. m (omega arith)) (λ d e. d) _ (rw c.from-then-q-from.ensures at c.add.ensures)
