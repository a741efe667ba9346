-- Paths in graphs of up to 256 nodes, and what a bit matrix says of them.
use Rattle.std.specs.Prelude.{◌≡◌, ℕ, ◌<◌, Bool, true, ◌&&◌, ◌||◌, ◌≢◌, List, Decides, nat_lt}
use Rattle.graphs.specs.Matrix.{bit, row_bit}

-- u reaches v along edges; each node reaches itself
pub data Reaches (edge : ℕ → ℕ → Bool) : ℕ → ℕ → Type 0 where
  here : {u : ℕ} → Reaches edge u u
  step : {u w v : ℕ} → edge u w ≡ true → Reaches edge w v → Reaches edge u v

-- the edges that a matrix draws
abbrev pub drawn : List ℕ → ℕ → ℕ → Bool
drawn m u v = nat_lt v 256 && bit m u v

-- the matrix has these edges and no other
abbrev pub Draws : (ℕ → ℕ → Bool) → List ℕ → Type 0
Draws edge m = (u v : ℕ) → u < 256 → v < 256 → bit m u v ≡ edge u v

-- the matrix says which node reaches which
abbrev pub Closure : (ℕ → ℕ → Bool) → List ℕ → Type 0
Closure edge m = (u v : ℕ) → u < 256 → v < 256 → Decides (bit m u v) (Reaches edge u v)

-- m' is m with the diagonal set
pub record Diagonal (m m' : List ℕ) : Type 0 where
  pub on : (u : ℕ) → u < 256 → bit m' u u ≡ true
  pub off : (u v : ℕ) → u < 256 → v < 256 → u ≢ v → bit m' u v ≡ bit m u v

-- m' has the bits of m, and those of the row in each row with bit k
abbrev pub Spread : ℕ → List ℕ → List ℕ → List ℕ → Type 0
Spread k row m m' = (u v : ℕ) → u < 256 → v < 256 → bit m' u v ≡ (bit m u v || (bit m u k && row_bit row v))

-- m' has the edges of m, and an edge for each two edges of m that meet at k
abbrev pub Through : ℕ → List ℕ → List ℕ → Type 0
Through k m m' = (u v : ℕ) → u < 256 → v < 256 → bit m' u v ≡ (bit m u v || (bit m u k && bit m k v))
