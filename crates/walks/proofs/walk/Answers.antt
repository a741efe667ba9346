use Rattle.walks.proofs.walk.Goals as goal

pub returns-in-Address : goal.returns-in-Address
returns-in-Address g c = rw c.in-Address.is c.add.ensures

pub returns-in-Copy : goal.returns-in-Copy
returns-in-Copy g c = rw c.in-Copy.is c.copy_row.ensures

pub returns-in-Load : goal.returns-in-Load
returns-in-Load g c = rw c.in-Load.is c.walk_load.ensures

pub returns-in-Store : goal.returns-in-Store
returns-in-Store g c = rw c.in-Store.is c.walk_store.ensures
