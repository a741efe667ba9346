use Rattle.books.proofs.laws.known_outcomes.Goals as goal
use Rattle.books.proofs.Known.{known_list, known_units, known_clashes, known_limits}

pub returns : goal.returns
returns c = record { list = known_list; units = known_units; clashes = known_clashes; limits = known_limits }
