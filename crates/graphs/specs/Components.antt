-- Components: nodes that reach each other.
use Rattle.std.specs.Prelude.{ℕ, ◌<◌, Bool, List, slice_index}
use Rattle.graphs.specs.Paths.{Reaches}

-- u and v reach each other
pub record Mutual (edge : ℕ → ℕ → Bool) (u v : ℕ) : Type 0 where
  pub there : Reaches edge u v
  pub back : Reaches edge v u

-- f is the lowest node of the component of u
pub record Lowest (edge : ℕ → ℕ → Bool) (u f : ℕ) : Type 0 where
  pub member : Mutual edge u f
  pub least : (v : ℕ) → v < f → Mutual edge u v → ⊥

-- each node's entry is the lowest node of its component
abbrev pub Components : (ℕ → ℕ → Bool) → List ℕ → Type 0
Components edge lowest = (u : ℕ) → u < 256 → Lowest edge u (slice_index lowest u)
