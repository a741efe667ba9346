use Rattle.std.proofs.Common.{◌≡◌, List, get_or, Some, None, Ok}
use Rattle.grammar.specs.Units.{outcome, read}
use Rattle.declarations.specs.Declarations.{Entry, declarations_in}
use Rattle.names.specs.Held.{notes}
use Rattle.books.specs.Books.{Units}
use Rattle.standing.specs.Layout.{Laid, SameNotes, Layable, lay_all}
use Rattle.standing.specs.Cursors.{text_read, offset_of}
use Rattle.standing.proofs.Rests.{Rest}
use Rattle.standing.proofs.place.place_names.Given as goal

abbrev pub invariant-loop-found : goal.invariant-loop-found
invariant-loop-found l =
    (text_read l.found-iterator ≡ l.text) × SameNotes (notes l.initial.names) (notes l.names)
    × ((units : Units) (es : List Entry) → get_or units l.unit None ≡ Some l.text → Ok tt ≡ outcome (read l.text)
    → Layable es (declarations_in l.text) (notes l.initial.names) → Laid units es (notes l.initial.names) l.initial.list
    → Rest l.text (offset_of l.found-iterator) (λ ds.
    (fs : List Entry) × Laid units fs (notes l.names) l.list × Layable fs ds (notes l.names) × (lay_all fs ds ≡ lay_all es (declarations_in l.text))))
