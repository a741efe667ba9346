-- Questions about rows, object by object.
use Rattle.std.specs.Prelude.{◌≡◌, ℕ, ◌<◌, ◌≤◌, Bool, true, T, Some, None, Option}
use Rattle.constraints.specs.Constraint.{var_count}
use Rattle.engine.specs.Meanings.{Meaning}

-- a settled engine answers for a variable of its list
pub record AnswersFor (m : Meaning) (v : ℕ) : Type 0 where
  pub settled : m.settled ≡ true
  pub row : v < var_count m.system

-- the smallest object of the row at or above a number; without one, none is there
abbrev pub NextObject : (ℕ → Bool) → ℕ → Option ℕ → Type 0
NextObject row from (Some o) = (o < 256) × (from ≤ o) × T (row o) × ((k : ℕ) → from ≤ k → k < o → T (row k) → ⊥)
NextObject row from None = (k : ℕ) → k < 256 → from ≤ k → T (row k) → ⊥

-- no object below a number is in both rows
abbrev pub Unshared : (ℕ → Bool) → (ℕ → Bool) → ℕ → Type 0
Unshared r q from = (k : ℕ) → k < from → T (r k) → T (q k) → ⊥
