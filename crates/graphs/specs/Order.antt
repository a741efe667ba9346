-- An order of the nodes along the paths.
use Rattle.std.specs.Prelude.{◌≡◌, ℕ, ◌-◌, ◌<◌, ◌≤◌, Bool, true, not, ◌&&◌, ◌≢◌, List, slice_index, slice_index_or}
use Rattle.graphs.specs.Matrix.{bit}
use Rattle.graphs.specs.Paths.{Reaches}

-- u reaches v, in another component
pub record Above (edge : ℕ → ℕ → Bool) (u v : ℕ) : Type 0 where
  pub there : Reaches edge u v
  pub apart : Reaches edge v u → ⊥

-- the first n places hold the nodes below n, each once, and none before a node of another component that reaches it
pub record Arranged (edge : ℕ → ℕ → Bool) (order : List ℕ) (n : ℕ) : Type 0 where
  pub inside : (k : ℕ) → k < n → slice_index order k < n
  pub once : (i j : ℕ) → i < j → j < n → slice_index order i ≢ slice_index order j
  pub covers : (u : ℕ) → u < n → (k : ℕ) × (k < n) × (slice_index order k ≡ u)
  pub sorted : (i j : ℕ) → i < j → j < n → Above edge (slice_index order j) (slice_index order i) → ⊥

-- the same, as a closed matrix says it
abbrev pub above : List ℕ → ℕ → ℕ → Bool
above m u v = bit m u v && not (bit m v u)

-- p is the first of n places whose node is reached from u in another component, or n
pub record FirstBelow (m order : List ℕ) (u n p : ℕ) : Type 0 where
  pub within : p ≤ n
  pub none : (i : ℕ) → i < p → above m u (slice_index order i) ≢ true
  pub here : p < n → above m u (slice_index order p) ≡ true

-- xs' is xs with x put at place p, and the places from p up to n moved up by one
pub record Inserted (xs xs' : List ℕ) (n p x : ℕ) : Type 0 where
  pub before : (k : ℕ) → k < p → slice_index xs' k ≡ slice_index xs k
  pub here : slice_index_or xs' p 0 ≡ x
  pub after : (k : ℕ) → p < k → k ≤ n → slice_index xs' k ≡ slice_index xs (k - 1)
  pub rest : (k : ℕ) → n < k → slice_index xs' k ≡ slice_index xs k
