-- Sources as columns of a bit matrix: 256 objects, 256 rows of open variables, 8 loads of each of 256 variables.
use Rattle.std.specs.Prelude.{◌≡◌, ℕ, ◌-◌, ◌/◌, ◌%◌, ◌<◌, cond, List, nat_lt}
use Rattle.graphs.specs.Matrix.{bit, bit_at}
use Rattle.constraints.specs.Constraint.{System, var_count}
use Rattle.constraints.specs.Merge.{Source, object, row, loaded, stands, copy_reach}

unfoldable pub source_at : ℕ → Source
source_at c = cond (nat_lt c 256) (object c) (cond (nat_lt c 512) (row (c - 256)) (loaded ((c - 512) / 8) ((c - 512) % 8)))

-- the matrix says which variable reaches which
abbrev pub ReachBits : System → List ℕ → Type 0
ReachBits sys m = (u v : ℕ) → u < var_count sys → v < var_count sys → bit m u v ≡ copy_reach sys u v

-- the matrix says which source stands at which variable
abbrev pub StandBits : System → List ℕ → Type 0
StandBits sys m = (u c : ℕ) → u < 256 → c < 2560 → bit_at 80 m u c ≡ stands sys (source_at c) u
