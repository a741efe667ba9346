-- The book: which texts stand under the unit numbers 0 to 7, and whether it is settled; what loads, unloads and settles make of it.
use Rattle.std.specs.Prelude.{ℕ, Bool, true, false, cond, List, replicate, Some, None, slice_set}
use Rattle.constraints.specs.Constraint.{System}
use Rattle.engine.specs.Meanings.{Rule}
use Rattle.books.specs.Books.{Units, standing, list_of}
use Rattle.standing.specs.Loads.{load_refusal, unload_refusal, unless}

pub record Book : Type 0 where
  pub units : Units
  pub settled : Bool

abbrev pub new_book : Book
new_book = record { units = replicate 8 None; settled = false }

abbrev pub unsettled : Units → Book
unsettled us = record { units = us; settled = false }

abbrev pub texts_of : Book → List (List ℕ)
texts_of b = standing b.units

-- the list of the texts that stand
abbrev pub book_list : Book → System
book_list b = list_of (texts_of b)

-- a load or an unload that no refusal stops enters or strikes out its text and makes the book unsettled
abbrev pub load_book : Book → ℕ → List ℕ → Book
load_book b u t = unless (load_refusal b.units u t) (unsettled (slice_set b.units u (Some t))) b

abbrev pub unload_book : Book → ℕ → Book
unload_book b u = unless (unload_refusal b.units u) (unsettled (slice_set b.units u None)) b

-- settle makes the book settled if its list fits the engine
abbrev pub settle_book : Rule → Book → Book
settle_book rule b = cond (rule.fits (book_list b)) (record { units = b.units; settled = true }) b
