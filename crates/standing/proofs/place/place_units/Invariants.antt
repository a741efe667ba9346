use Rattle.std.proofs.Common.{[], take}
use Rattle.names.specs.Held.{notes}
use Rattle.books.specs.Books.{standing, table}
use Rattle.standing.specs.Knowledge.{texts_in, Knows}
use Rattle.standing.specs.Layout.{Laid, SameNotes, StandingTexts}
use Rattle.standing.proofs.place.place_units.Given as goal

abbrev pub invariant-loop-unit : goal.invariant-loop-unit
invariant-loop-unit l =
    SameNotes (notes l.initial.names) (notes l.names)
    × (StandingTexts (texts_in l.texts) → Knows (notes l.initial.names) (standing (texts_in l.texts)) → Laid (texts_in l.texts) [] (notes l.initial.names) l.initial.list
    → Laid (texts_in l.texts) (table (standing (take l.unit (texts_in l.texts)))) (notes l.names) l.list)
