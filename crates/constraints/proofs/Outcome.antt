-- The test shows the smallest solution.
use Rattle.std.proofs.Common.{◌≡◌, ℕ, ◌+◌, Bool, true, false, not, ◌&&◌, ◌||◌, T, eqb, ltb, List, [], ◌∷◌, length, sym, inl, inr, eqb→eq, lt→ltb}
use lib.Dec.{eqb_refl}
use Rattle.constraints.specs.Rows.{pairs, ◌⊑◌}
use Rattle.constraints.specs.Constraint.{Constraint, address, copy, load, store, System, length_of, Meets, Solves, constraint}
use Rattle.constraints.specs.Least.{follows, least}
use Rattle.constraints.specs.Outcome.{Pair, rows_of, each_pair, derived, meets, is_outcome}
use Rattle.constraints.proofs.Finite.{or_cases, and_intro, and_left, and_right, every_elim}
use Rattle.constraints.proofs.Least.{some_elim}
use Rattle.constraints.proofs.Solver.{settled_least, follows_within}

pub each_elim : (f : ℕ → ℕ → Bool) (ps : List Pair) → T (each_pair f ps) → (v o : ℕ) → T (rows_of ps v o) → T (f v o)
each_elim f [] all v o t = absurd t
each_elim f (p ∷ ps) all v o t =
    elim (or_cases (eqb v p.variable && eqb o p.object) (rows_of ps v o) t) [
      | inl here ↦
          let row : v ≡ p.variable = eqb→eq v p.variable (and_left _ _ here) in
          let object : o ≡ p.object = eqb→eq o p.object (and_right _ _ here) in
          rw (row, object) (and_left (f p.variable p.object) (each_pair f ps) all)
      | inr there ↦ each_elim f ps (and_right (f p.variable p.object) (each_pair f ps) all) v o there
    ]

pub implies : (a b : Bool) → T (not a || b) → T a → T b
implies true b h t = h
implies false b h t = absurd t

meets_list : (blocks : List ℕ) (c : Constraint) (ps : List Pair) → T (meets blocks c ps) → Meets blocks c (pairs (rows_of ps))
meets_list blocks (address p o) ps t = t
meets_list blocks (copy p q) ps t = λ o h. implies (eqb q q) (rows_of ps p o) (each_elim _ ps t q o h) (eqb_refl q)
meets_list blocks (load p q k) ps t = λ o x h lt g.
    let inner = implies (eqb q q && ltb k (length_of blocks o)) (each_pair (λ w y. not (eqb w (o + k)) || rows_of ps p y) ps)
    (each_elim _ ps t q o h) (and_intro _ _ (eqb_refl q) (lt→ltb k (length_of blocks o) lt)) in
    implies (eqb (o + k) (o + k)) (rows_of ps p x) (each_elim _ ps inner (o + k) x g) (eqb_refl (o + k))
meets_list blocks (store p k q) ps t = λ o x h lt g.
    let inner = implies (eqb p p && ltb k (length_of blocks o)) (each_pair (λ w y. not (eqb w q) || rows_of ps (o + k) y) ps)
    (each_elim _ ps t p o h) (and_intro _ _ (eqb_refl p) (lt→ltb k (length_of blocks o) lt)) in
    implies (eqb q q) (rows_of ps (o + k) x) (each_elim _ ps inner q x g) (eqb_refl q)

derived_within : (sys : System) (ps : List Pair) → T (derived sys ps) → rows_of ps ⊑ least sys
derived_within sys [] t v o h = absurd h
derived_within sys (p ∷ ps) t v o h =
    let within = derived_within sys ps (and_right _ (derived sys ps) t) in
    let (c, has, u) = some_elim sys (λ c. follows sys.blocks c (rows_of ps) p.variable p.object) (and_left _ (derived sys ps) t) in
    elim (or_cases (eqb v p.variable && eqb o p.object) (rows_of ps v o) h) [
      | inl here ↦
          let row : v ≡ p.variable = eqb→eq v p.variable (and_left _ _ here) in
          let object : o ≡ p.object = eqb→eq o p.object (and_right _ _ here) in
          rw (row, object) (follows_within sys (rows_of ps) c within has p.variable p.object u)
      | inr there ↦ within v o there
    ]

pub outcome_least : (sys : System) (ps : List Pair) → T (is_outcome sys ps) → least sys ≡ rows_of ps
unfolding is_outcome
outcome_least sys ps t =
    sym (settled_least sys (rows_of ps) (derived_within sys ps (and_left (derived sys ps) _ t)) solves)
  where
    solves : Solves sys (rows_of ps)
    solves c (i, lt, e) =
        rw e at (meets_list sys.blocks (constraint sys i) ps
        (every_elim (length sys.words) (λ j. meets sys.blocks (constraint sys j) ps) (and_right (derived sys ps) _ t) i lt))
