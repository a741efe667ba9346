-- The book that an analyser's state stands for.
use Rattle.standing.specs.States.{units_of}
use Rattle.host_analyser.specs.declared.analyser.Analyser.{Analyser}
use Rattle.host_analyser.specs.Books.{Book}

abbrev pub book_of : {E : Type 0} {g : _} → Analyser E g → Book
book_of a = record { units = units_of a.units; settled = a.settled }
