use Rattle.books.proofs.laws.loads_and_unloads.Goals as goal
use Rattle.books.proofs.Loads.{nothing_stands, load_keeps, unload_keeps}
use Rattle.books.proofs.Commute.{loads_commute}

pub returns : goal.returns
returns c = record { none = nothing_stands; load = load_keeps; unload = unload_keeps; commute = loads_commute }
