-- What each call of a row store answers and does, by the pairs that the store holds and its room.
use Rattle.std.specs.Prelude.{◌≡◌, ℕ, ◌<◌, ◌≤◌, Bool, true, false, cond, ◌&&◌, ◌⊎◌, List, [], ◌∷◌, Some, None, Ok, Err, Option, Result, nat_le, nat_lt}
use Rattle.constraints.specs.Finite.{any, lowest, count}
use Rattle.constraints.specs.Rows.{Rows, with_pair, total}
use Rattle.rows.specs.declared.Added.{Added}
use Rattle.rows.specs.declared.Added.TheVariants.{New, Old}
use Rattle.rows.specs.declared.StoreFault.{StoreFault}
use Rattle.rows.specs.declared.StoreFault.TheVariants.{Outside, Full}

-- the number of a refusal, and the values that it carries
abbrev pub refusal : StoreFault → ℕ × List ℕ
refusal Outside = (8, [])
refusal (Full v o) = (6, v ∷ o ∷ [])

-- a variable and an object that a store can hold
abbrev pub Inside : ℕ → ℕ → Type 0
Inside v o = (v < 256) × (o < 256)

-- the test for it
abbrev pub in_range : ℕ → ℕ → Bool
in_range v o = nat_lt v 256 && nat_lt o 256

abbrev pub OutsideOf : ℕ → ℕ → Type 0
OutsideOf v o = (255 < v) ⊎ (255 < o)

-- pairs that a store with room for n may hold
pub record Within (n : ℕ) (P : Rows) : Type 0 where
  pub few : total P ≤ n
  pub inside : (v o : ℕ) → P v o ≡ true → Inside v o

-- o is the smallest object of the row at or above i
pub record Smallest (row : ℕ → Bool) (i o : ℕ) : Type 0 where
  pub from : i ≤ o
  pub object : o < 256
  pub held : row o ≡ true
  pub before : (x : ℕ) → i ≤ x → x < o → row x ≡ false

-- the smallest object of the row at or above i, or none
abbrev pub Found : (ℕ → Bool) → ℕ → Option ℕ → Type 0
Found row i None = (o : ℕ) → i ≤ o → row o ≡ false
Found row i (Some o) = Smallest row i o

-- the same as a value: every reply that Found admits is this one
abbrev pub next_of : (ℕ → Bool) → ℕ → Option ℕ
next_of row i = cond (any 256 (λ o. nat_le i o && row o)) (Some (lowest 256 (λ o. nat_le i o && row o))) None

-- put (v, o) takes the pairs P, at room n, to P', and says r
abbrev pub PutOf : ℕ → Rows → Rows → ℕ → ℕ → Result Added StoreFault → Type 0
PutOf n P P' v o (Ok Old) = (P v o ≡ true) × (P' ≡ P) × Inside v o
PutOf n P P' v o (Ok New) = (P v o ≡ false) × (P' ≡ with_pair P v o) × Inside v o × (total P < n)
PutOf n P P' v o (Err Outside) = OutsideOf v o × (P' ≡ P)
PutOf n P P' v o (Err (Full x y)) = (P v o ≡ false) × (total P ≡ n) × (x ≡ v) × (y ≡ o) × (P' ≡ P) × Inside v o

abbrev pub HasOf : Rows → ℕ → ℕ → Result Bool StoreFault → Type 0
HasOf P v o (Ok b) = (b ≡ P v o) × Inside v o
HasOf P v o (Err Outside) = OutsideOf v o
HasOf P v o (Err (Full x y)) = ⊥

abbrev pub NextOf : Rows → ℕ → ℕ → Result (Option ℕ) StoreFault → Type 0
NextOf P v i (Ok r) = Found (P v) i r × (v < 256)
NextOf P v i (Err Outside) = 255 < v
NextOf P v i (Err (Full x y)) = ⊥

abbrev pub SizeOf : Rows → ℕ → Result ℕ StoreFault → Type 0
SizeOf P v (Ok n) = (n ≡ count 256 (P v)) × (v < 256)
SizeOf P v (Err Outside) = 255 < v
SizeOf P v (Err (Full x y)) = ⊥
