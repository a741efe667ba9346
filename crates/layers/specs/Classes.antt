-- Classes of variables by number, and what is computed from them.
use Rattle.std.specs.Prelude.{◌≡◌, ℕ, ◌<◌, Bool, false, List, length, Decides, slice_index, slice_index_or}
use Rattle.constraints.specs.Constraint.{System, var_count, left, right}
use Rattle.constraints.specs.Merge.{is_open, representative}

-- variables have equal numbers exactly if they are of one class
abbrev pub Numbers : System → (ℕ → ℕ → Bool) → List ℕ → Type 0
Numbers sys same class =
    (u v : ℕ) → u < var_count sys → v < var_count sys → Decides (same u v) (slice_index class u ≡ slice_index class v)

-- the flags say which variables are open
abbrev pub Flags : System → List Bool → Type 0
Flags sys flags = (v : ℕ) → v < var_count sys → slice_index_or flags v false ≡ is_open sys v

-- each variable's entry is its representative
abbrev pub Representatives : System → (ℕ → ℕ → Bool) → List ℕ → Type 0
Representatives sys same reps = (v : ℕ) → v < var_count sys → slice_index reps v ≡ representative sys same v

-- the variables that words name have an entry, and entries are variables
pub record Named (reps words : List ℕ) : Type 0 where
  pub left_in : (i : ℕ) → i < length words → left (slice_index words i) < length reps
  pub right_in : (i : ℕ) → i < length words → right (slice_index words i) < length reps
  pub small : (v : ℕ) → v < length reps → slice_index reps v < 256

abbrev pub replacing : List ℕ → ℕ → ℕ
replacing reps v = slice_index reps v

-- v is of the class, and open or plain as given
abbrev pub Peer : List Bool → List ℕ → Bool → ℕ → ℕ → Type 0
Peer flags class is_open number v = (slice_index_or flags v false ≡ is_open) × (slice_index class v ≡ number)

-- no number below n has P
abbrev pub NoneBelow : ℕ → (ℕ → Type 0) → Type 0
NoneBelow n P = (j : ℕ) → j < n → P j → ⊥

-- f is the lowest number below n with P
pub record LowestBelow (n : ℕ) (P : ℕ → Type 0) (f : ℕ) : Type 0 where
  pub inside : f < n
  pub has : P f
  pub least : NoneBelow f P
