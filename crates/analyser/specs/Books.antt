-- The book: which texts stand under the unit numbers 0 to 7, and whether it is settled. It is fed the calls' arguments and no reply.
use Rattle.std.specs.Prelude.{ℕ, Bool, false, not, List, [], ◌∷◌, replicate, is_some, Some, None, Option, nat_lt, slice_index_or, slice_set}
use Rattle.declarations.specs.Verdicts.{unit_verdict}
use Rattle.analyser.specs.declared.refusal.Refusal.{Refusal}
use Rattle.analyser.specs.declared.refusal.Refusal.TheVariants.{NoSuchUnit, UnitStands, NothingStands}
use Rattle.analyser.specs.Refusals.{refused_if, refused_text, first_of}

pub record Book : Type 0 where
  pub texts : List (Option (List ℕ))
  pub settled : Bool

abbrev pub new_book : Book
new_book = record { texts = replicate 8 None; settled = false }

abbrev pub unsettled : List (Option (List ℕ)) → Book
unsettled ts = record { texts = ts; settled = false }

abbrev pub stands : Book → ℕ → Bool
stands b u = is_some (slice_index_or b.texts u None)

-- the first refusal of a load that applies, if any does
unfoldable pub load_refusal : Book → ℕ → List ℕ → Option Refusal
load_refusal b u t =
    first_of (refused_if (nat_lt 7 u) NoSuchUnit ∷ (refused_if (stands b u) UnitStands ∷ (refused_text (unit_verdict t) ∷ [])))

unfoldable pub unload_refusal : Book → ℕ → Option Refusal
unload_refusal b u = first_of (refused_if (nat_lt 7 u) NoSuchUnit ∷ (refused_if (not (stands b u)) NothingStands ∷ []))

-- a book changes unless a refusal stops the call
abbrev pub unless : Option Refusal → Book → Book → Book
unless None new old = new
unless (Some _) new old = old

abbrev pub load_book : Book → ℕ → List ℕ → Book
load_book b u t = unless (load_refusal b u t) (unsettled (slice_set b.texts u (Some t))) b

abbrev pub unload_book : Book → ℕ → Book
unload_book b u = unless (unload_refusal b u) (unsettled (slice_set b.texts u None)) b
