-- Marks as rows of a bit matrix.
use Rattle.std.specs.Prelude.{◌≡◌, ℕ, ◌<◌, Bool, ◌&&◌, List}
use Rattle.constraints.specs.Finite.{any}
use Rattle.constraints.specs.Constraint.{System, var_count}
use Rattle.constraints.specs.Merge.{mark, copy_reach}
use Rattle.graphs.specs.Matrix.{bit, bit_at}
use Rattle.flows.specs.Columns.{source_at}

-- the matrix has the mark of each variable
abbrev pub MarkBits : System → List ℕ → Type 0
MarkBits sys m = (v c : ℕ) → v < var_count sys → c < 2560 → bit_at 80 m v c ≡ mark sys (copy_reach sys) v (source_at c)

-- row v of the marks from the first n variables
abbrev pub gathered : List ℕ → List ℕ → ℕ → ℕ → ℕ → Bool
gathered reach stand v c n = any n (λ u. bit_at 80 stand u c && bit reach u v)
