-- The pointers of standing texts are in the table.
use Rattle.std.proofs.Common.{◌≡◌, ℕ, List, Some, None, Option, refl}
use Rattle.std.specs.List.{AllByRecursion, slice_get}
use Rattle.grammar.specs.Grammar.{Place}
use Rattle.grammar.specs.Units.{statements_in}
use Rattle.units.specs.Statements.{cell}
use Rattle.units.specs.Listing.{pointers_in}
use Rattle.declarations.specs.Declarations.{mentions_in, declared_in, fault_in}
use Rattle.books.specs.Tables.{Within}
use Rattle.books.specs.Books.{table}
use Rattle.books.specs.Targets.{cell_if, pointer, PointersAreWithin}
use Rattle.books.proofs.Options.{none_some, some_same}
use Rattle.books.proofs.Members.{nth_in, all_in}
use Rattle.books.proofs.Embedding.{grown}
use Rattle.books.proofs.Faultless.{faultless_fits, pointers_inside}
use Rattle.books.proofs.Lists.{text_grows}

text_pointers : (t : List ℕ) → fault_in t ≡ None → AllByRecursion (λ (p : Place). Within (declared_in t) (cell p)) (pointers_in t)
unfolding mentions_in pointers_in
text_pointers t e = pointers_inside (declared_in t) (statements_in t) (faultless_fits (mentions_in t) e)

pub pointers_within : PointersAreWithin
unfolding pointer
pointers_within texts book t t_in i c e = go (slice_get (pointers_in t) i) refl e
  where
    go : (o : Option Place) → slice_get (pointers_in t) i ≡ o → cell_if o ≡ Some c → Within (table texts) c
    go None is f = absurd (none_some f)
    go (Some p) is f =
        let own : Within (declared_in t) (cell p) =
        all_in (λ (q : Place). Within (declared_in t) (cell q)) p (pointers_in t) (text_pointers t (book.faultless t t_in)) (nth_in (pointers_in t) i p is) in
        rw (← some_same f) (grown (declared_in t) (table texts) (cell p) (text_grows texts book.agreed t t_in) own)
