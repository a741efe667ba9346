-- Which words wait, and why the others need not.
use Rattle.std.specs.Prelude.{◌≡◌, ℕ, ◌-◌, ◌<◌, ◌≤◌, Bool, true, false, ◌&&◌, ◌||◌, T, ◌⊎◌, List, length, ◌==◌, nat_le, nat_lt, slice_index_or}
use Rattle.constraints.specs.Rows.{Rows, ◌⊑◌, pairs, total}
use Rattle.constraints.specs.Constraint.{System, length_of, constraint, Meets}
use Rattle.constraints.specs.declared.constraint.Constraint.{Constraint}
use Rattle.constraints.specs.declared.constraint.Constraint.TheVariants.{Address as address, Copy as copy, Load as load, Store as store}
use Rattle.worklist.specs.declared.waiting.Waiting.{Waiting}

abbrev pub waits : Waiting → ℕ → Bool
waits w j = slice_index_or w.flags j false

-- whether the rule of a constraint may read row v
abbrev pub reads : List ℕ → Constraint → ℕ → Bool
reads blocks (address p o) v = false
reads blocks (copy p q) v = v == q
reads blocks (load p q k) v = v == q || (nat_le k v && nat_lt k (length_of blocks (v - k)))
reads blocks (store p k q) v = v == p || v == q

-- of the first n words each that may read row v waits, with those that waited before
pub record Marks (sys : System) (n v : ℕ) (W W' : ℕ → Bool) : Type 0 where
  pub waits : (j : ℕ) → W j ≡ true → W' j ≡ true
  pub inside : (j : ℕ) → W' j ≡ true → (W j ≡ true) ⊎ (j < n)
  pub readers : (j : ℕ) → j < n → j < length sys.words → reads sys.blocks (constraint sys j) v ≡ true → W' j ≡ true

-- P' has nothing that P lacks in a row that c may read
abbrev pub Unread : List ℕ → Constraint → Rows → Rows → Type 0
Unread blocks c P P' = (v o : ℕ) → reads blocks c v ≡ true → T (P' v o) → T (P v o)

-- while rows grow from P to P', a word waits if a row that it reads has grown
pub record Noted (sys : System) (n m : ℕ) (P P' : Rows) (W W' : ℕ → Bool) : Type 0 where
  pub same : m ≡ n
  pub grows : P ⊑ P'
  pub waits : (j : ℕ) → W j ≡ true → W' j ≡ true
  pub inside : (j : ℕ) → W' j ≡ true → (W j ≡ true) ⊎ (j < n)
  pub kept : (j : ℕ) → j < n → j < length sys.words → (W' j ≡ true) ⊎ Unread sys.blocks (constraint sys j) P P'
  pub moves : (total P < total P') ⊎ ((j : ℕ) → W' j ≡ W j)

-- each of the first n words waits or is met, and only they wait
pub record Ready (sys : System) (n : ℕ) (P : Rows) (W : ℕ → Bool) : Type 0 where
  pub short : n ≤ length sys.words
  pub inside : (j : ℕ) → W j ≡ true → j < n
  pub met : (j : ℕ) → j < n → (W j ≡ true) ⊎ Meets sys.blocks (constraint sys j) (pairs P)

-- nothing waits
abbrev pub Idle : (ℕ → Bool) → Type 0
Idle W = (j : ℕ) → W j ≡ false
