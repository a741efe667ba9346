use Rattle.std.proofs.Common.{arith}
use Rattle.walks.proofs.Growth.{grown_weaker}
use Rattle.difference.proofs.spread.store_base.Goals as goal

pub returns-then-p-from : goal.returns-then-p-from
returns-then-p-from g c = grown_weaker _ _ _ _ _ _ (λ R m h. m (omega arith)) (λ d e. d) _ (rw c.from-then-p-from.ensures at c.store_into.ensures)
