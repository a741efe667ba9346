-- Indirect calls of the standing units.
use Rattle.std.specs.Prelude.{ℕ, not, List, [], ◌∷◌, is_some, Some, None, Option, nat_lt, slice_index_or}
use Rattle.units.specs.Words.{Cell}
use Rattle.books.specs.Books.{Units}
use Rattle.books.specs.Targets.{pointer}
use Rattle.standing.specs.declared.refusal.UnitRefusal.{UnitRefusal}
use Rattle.standing.specs.declared.refusal.UnitRefusal.TheVariants.{NoSuchUnit, NothingStands, NoSuchCall}
use Rattle.standing.specs.Refusals.{refused_if, earliest}
use Rattle.standing.specs.Loads.{stands}

-- the pointer of the unit's indirect call i, from 0
abbrev pub pointer_in : Option (List ℕ) → ℕ → Option Cell
pointer_in None i = None
pointer_in (Some t) i = pointer t i

abbrev pub call_pointer : Units → ℕ → ℕ → Option Cell
call_pointer units u i = pointer_in (slice_index_or units u None) i

-- why there is none: 9, 18, 24
unfoldable pub call_refusal : Units → ℕ → ℕ → Option UnitRefusal
call_refusal units u i =
    earliest (refused_if (nat_lt 7 u) NoSuchUnit ∷ refused_if (not (stands units u)) NothingStands ∷ refused_if (not (is_some (call_pointer units u i))) NoSuchCall ∷ [])
