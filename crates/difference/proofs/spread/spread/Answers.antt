use Rattle.walks.proofs.Growth.{grown_weaker}
use Rattle.difference.proofs.spread.spread.Goals as goal

pub returns-in-Copy : goal.returns-in-Copy
returns-in-Copy g c =
    rw c.in-Copy.is (grown_weaker _ _ _ _ _ _ (λ R m h e. m c.args.pair.object (rw e (h _ _ c.requires.held))) (λ d. d) _ c.spread_copy.ensures)

pub returns-in-Load : goal.returns-in-Load
returns-in-Load g c = rw c.in-Load.is c.spread_load.ensures

pub returns-in-Store : goal.returns-in-Store
returns-in-Store g c = rw c.in-Store.is c.spread_store.ensures
