-- Systems with known outcomes: a computed test that a list of pairs is the smallest solution.
use Rattle.std.specs.Prelude.{ℕ, ◌+◌, Bool, true, false, not, ◌&&◌, ◌||◌, List, [], ◌∷◌, length, ◌==◌, nat_lt}
use Rattle.constraints.specs.Finite.{every}
use Rattle.constraints.specs.Rows.{Rows}
use Rattle.constraints.specs.Constraint.{Constraint, address, copy, load, store, System, length_of, constraint, some_constraint}
use Rattle.constraints.specs.Least.{follows}

pub record Pair : Type 0 where
  pub variable : ℕ
  pub object : ℕ

-- the rows that hold the listed pairs
abbrev pub rows_of : List Pair → Rows
rows_of [] v o = false
rows_of (p ∷ ps) v o = (v == p.variable && o == p.object) || rows_of ps v o

abbrev pub each_pair : (ℕ → ℕ → Bool) → List Pair → Bool
each_pair f [] = true
each_pair f (p ∷ ps) = f p.variable p.object && each_pair f ps

-- each pair follows from those listed after it
abbrev pub derived : System → List Pair → Bool
derived sys [] = true
derived sys (p ∷ ps) = some_constraint sys (λ c. follows sys.blocks c (rows_of ps) p.variable p.object) && derived sys ps

-- the listed pairs meet the constraint
abbrev pub meets : List ℕ → Constraint → List Pair → Bool
meets blocks (address p o) ps = rows_of ps p o
meets blocks (copy p q) ps = each_pair (λ v x. not (v == q) || rows_of ps p x) ps
meets blocks (load p q k) ps =
    each_pair (λ v o. not (v == q && nat_lt k (length_of blocks o)) || each_pair (λ w x. not (w == o + k) || rows_of ps p x) ps) ps
meets blocks (store p k q) ps =
    each_pair (λ v o. not (v == p && nat_lt k (length_of blocks o)) || each_pair (λ w x. not (w == q) || rows_of ps (o + k) x) ps) ps

unfoldable pub is_outcome : System → List Pair → Bool
is_outcome sys ps = derived sys ps && every (length sys.words) (λ i. meets sys.blocks (constraint sys i) ps)
