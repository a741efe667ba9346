use Rattle.walks.proofs.Growth.{grown_weaker}
use Rattle.difference.proofs.spread.put_at.Goals as goal

pub returns-in-Some : goal.returns-in-Some
returns-in-Some g c =
    let (is, longer, below) = c.in-Some.ensures in
    grown_weaker _ _ _ _ _ _ (λ R m h. m longer) (λ d h. d) _ (rw (is, c.from.ensures) at c.add.ensures)
