-- The test shows what is handed down.
use Rattle.std.proofs.Common.{◌≡◌, ℕ, Bool, not, ◌&&◌, ◌||◌, T, eqb, List, [], ◌∷◌, refl, subst, inl, inr, eqb→eq}
use Rattle.constraints.specs.Finite.{every}
use Rattle.constraints.specs.Constraint.{System, var_count}
use Rattle.constraints.specs.Graph.{Graph, Walk, here, along, reaches}
use Rattle.constraints.specs.Merge.{copy_edge, copy_reach, representative}
use Rattle.constraints.specs.Reduced.{reduce_onto, replaced}
use Rattle.constraints.specs.Outcome.{Pair, rows_of}
use Rattle.constraints.specs.MergeOutcome.{walked, no_further, is_reach, same_list, Reduction, is_reduction, RightReduction, all_reductions, RightReductions}
use Rattle.constraints.proofs.Finite.{or_cases, and_left, and_right, every_elim}
use Rattle.constraints.proofs.Rows.{rows_equal}
use Rattle.constraints.proofs.Graph.{further_sound, reaches_walk, walk_reaches}
use Rattle.constraints.proofs.Outcome.{each_elim, implies}

module _ (n : ℕ) (edge : Graph) where
  walked_within : (ps : List Pair) → T (walked n edge ps) → (u v : ℕ) → T (rows_of ps u v) → Walk n edge u v
  walked_within [] t u v h = absurd h
  walked_within (p ∷ ps) t u v h =
      let rest = walked_within ps (and_right _ (walked n edge ps) t) in
      elim (or_cases (eqb u p.variable && eqb v p.object) (rows_of ps u v) h) [
        | inl new ↦
            let from : u ≡ p.variable = eqb→eq u p.variable (and_left (eqb u p.variable) (eqb v p.object) new) in
            let to : v ≡ p.object = eqb→eq v p.object (and_right (eqb u p.variable) (eqb v p.object) new) in
            rw (from, to) (further_sound n edge (rows_of ps) rest p.variable p.object (and_left _ (walked n edge ps) t))
        | inr old ↦ rest u v old
      ]

  walk_listed : (ps : List Pair) → T (no_further n edge ps) → (u v : ℕ) → Walk n edge u v → T (rows_of ps u v)
  walk_listed ps t u v (here lt) = every_elim n (λ x. rows_of ps x x) (and_left _ _ t) u lt
  walk_listed ps t u v (along {q} {p} w e lt) =
      let before = walk_listed ps t u q w in
      let all = each_elim (λ x r. every n (λ y. not (edge r y) || rows_of ps x y)) ps (and_right _ _ t) u q before in
      implies (edge q p) (rows_of ps u p) (every_elim n (λ y. not (edge q y) || rows_of ps u y) all p lt) e

  reach_listed : (ps : List Pair) → T (is_reach n edge ps) → rows_of ps ≡ reaches n edge
  unfolding is_reach
  reach_listed ps t =
      rows_equal (rows_of ps) (reaches n edge)
      (λ u v h. walk_reaches n edge u v (walked_within ps (and_left (walked n edge ps) _ t) u v h))
      (λ u v h. walk_listed ps (and_right (walked n edge ps) _ t) u v (reaches_walk n edge u v h))

list_equal : (xs ys : List ℕ) → T (same_list xs ys) → xs ≡ ys
list_equal [] [] t = refl
list_equal [] (y ∷ ys) t = absurd t
list_equal (x ∷ xs) [] t = absurd t
list_equal (x ∷ xs) (y ∷ ys) t =
    let head : x ≡ y = eqb→eq x y (and_left (eqb x y) (same_list xs ys) t) in
    let tail = list_equal xs ys (and_right (eqb x y) (same_list xs ys) t) in
    cc

-- what is handed down, where `reach` says which variables reach which
abbrev Handed : System → Reduction → (ℕ → ℕ → Bool) → Type 0
Handed sys r reach =
    (reduce_onto (representative sys (r.classes sys reach)) [] sys.words ≡ r.words)
    × (replaced (representative sys (r.classes sys reach)) sys ≡ r.count)

reduction_right : (sys : System) (r : Reduction) → T (is_reduction sys r) → RightReduction sys r
unfolding copy_reach
reduction_right sys r t =
    let rep : ℕ → ℕ = representative sys (r.classes sys (rows_of r.reach)) in
    let reach_test = is_reach (var_count sys) (copy_edge sys) r.reach in
    let list_test = same_list (reduce_onto rep [] sys.words) r.words in
    let count_test = eqb (replaced rep sys) r.count in
    let both : T (reach_test && list_test) = and_left (reach_test && list_test) count_test t in
    let listed = reach_listed (var_count sys) (copy_edge sys) r.reach (and_left reach_test list_test both) in
    subst (Handed sys r) listed (
      list_equal (reduce_onto rep [] sys.words) r.words (and_right reach_test list_test both),
      eqb→eq (replaced rep sys) r.count (and_right (reach_test && list_test) count_test t),
    )

pub reductions_right : (sys : System) (rs : List Reduction) → T (all_reductions sys rs) → RightReductions sys rs
reductions_right sys [] t = tt
reductions_right sys (r ∷ rs) t = (
  reduction_right sys r (and_left (is_reduction sys r) (all_reductions sys rs) t),
  reductions_right sys rs (and_right (is_reduction sys r) (all_reductions sys rs) t),
)
