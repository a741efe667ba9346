use Rattle.walks.proofs.Growth.{grown_weaker}
use Rattle.walks.proofs.load_from.Goals as goal

pub returns-in-Some : goal.returns-in-Some
returns-in-Some g c =
    let (is, longer, below) = c.in-Some.ensures in
    grown_weaker _ _ _ _ _ _ (λ R m h. m longer) (λ d h. d) _ (rw is at c.copy_row.ensures)
