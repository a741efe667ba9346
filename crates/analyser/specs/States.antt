-- The book that an analyser's state stands for.
use Rattle.std.specs.Prelude.{ℕ, List, map, Option}
use Rattle.analyser.specs.declared.place.Place.{Place}
use Rattle.analyser.specs.declared.analyser.Analyser.{Analyser}
use Rattle.analyser.specs.Books.{Book}
use Rattle.analyser.specs.Places.{text_or_none}

-- the text that stands in a place, if one does
abbrev pub standing_text : Place → Option (List ℕ)
standing_text p = text_or_none p.len p.bytes

abbrev pub book_of : Analyser → Book
book_of a = record { texts = map standing_text a.places; settled = a.settled }
