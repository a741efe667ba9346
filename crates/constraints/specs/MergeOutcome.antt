-- Systems whose reduced lists are known: a computed test, given which variables reach which.
use Rattle.std.specs.Prelude.{◌≡◌, ℕ, Bool, true, false, not, ◌&&◌, ◌||◌, List, [], ◌∷◌, ◌==◌}
use Rattle.constraints.specs.Finite.{every}
use Rattle.constraints.specs.Constraint.{System, var_count}
use Rattle.constraints.specs.Graph.{Graph, one_further}
use Rattle.constraints.specs.Merge.{copy_edge, copy_reach, representative}
use Rattle.constraints.specs.Reduced.{reduce_onto, replaced}
use Rattle.constraints.specs.Outcome.{Pair, rows_of, each_pair}

-- each pair is a node with itself, or one edge further than a pair listed after it
abbrev pub walked : ℕ → Graph → List Pair → Bool
walked n edge [] = true
walked n edge (p ∷ ps) = one_further n edge (rows_of ps) p.variable p.object && walked n edge ps

abbrev pub no_further : ℕ → Graph → List Pair → Bool
no_further n edge ps =
    every n (λ u. rows_of ps u u) && each_pair (λ u q. every n (λ p. not (edge q p) || rows_of ps u p)) ps

-- the listed pairs (u, v) are those with u reaching v
unfoldable pub is_reach : ℕ → Graph → List Pair → Bool
is_reach n edge ps = walked n edge ps && no_further n edge ps

abbrev pub same_list : List ℕ → List ℕ → Bool
same_list [] [] = true
same_list [] (y ∷ ys) = false
same_list (x ∷ xs) [] = false
same_list (x ∷ xs) (y ∷ ys) = x == y && same_list xs ys

-- which variables are of one class, where it is told which reach which
abbrev pub Classes : Type 0
Classes = System → (ℕ → ℕ → Bool) → ℕ → ℕ → Bool

-- the pairs that reach each other along copies, and by these classes the list handed down and the number of variables replaced
pub record Reduction : Type 0 where
  pub reach : List Pair
  pub classes : Classes
  pub words : List ℕ
  pub count : ℕ

abbrev pub is_reduction : System → Reduction → Bool
is_reduction sys r =
    let rep : ℕ → ℕ = representative sys (r.classes sys (rows_of r.reach)) in
    is_reach (var_count sys) (copy_edge sys) r.reach
    && same_list (reduce_onto rep [] sys.words) r.words
    && replaced rep sys == r.count

abbrev pub RightReduction : System → Reduction → Type 0
RightReduction sys r =
    let rep : ℕ → ℕ = representative sys (r.classes sys (copy_reach sys)) in
    (reduce_onto rep [] sys.words ≡ r.words) × (replaced rep sys ≡ r.count)

abbrev pub all_reductions : System → List Reduction → Bool
all_reductions sys [] = true
all_reductions sys (r ∷ rs) = is_reduction sys r && all_reductions sys rs

abbrev pub RightReductions : System → List Reduction → Type 0
RightReductions sys [] = Unit {0}
RightReductions sys (r ∷ rs) = RightReduction sys r × RightReductions sys rs
