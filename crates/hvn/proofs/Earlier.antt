-- What a copy brings from another component stands earlier in the order.
use Rattle.std.proofs.Common.{◌≡◌, ℕ, ◌<◌, true, false, ◌&&◌, List, get_or, sym, ap, ◌∙◌, subst, ap₂, inl, inr}
use Rattle.std.proofs.lemmas.Bool.{cases_order, both_ways}
use Rattle.graphs.specs.Order.{Above, Arranged}
use Rattle.constraints.specs.Constraint.{System, var_count, Valid, Has}
use Rattle.constraints.specs.declared.constraint.Constraint.TheVariants.{Copy as copy}
use Rattle.constraints.specs.Graph.{Walk, here, along}
use Rattle.constraints.specs.Merge.{copy_edge, copy_reach}
use Rattle.constraints.specs.Value.{component}
use Rattle.constraints.proofs.Finite.{T_true, and_intro, and_left}
use Rattle.constraints.proofs.Graph.{reaches_walk, walk_reaches, walk_join}
use Rattle.constraints.proofs.Merge.{edge_intro}
use Rattle.flows.proofs.Scans.{T-from}
use Rattle.flows.specs.Columns.{ReachBits}
use Rattle.flows.proofs.Walks.{walk_path, path_walk}
use Rattle.hvn.specs.Columns.{member}

module _ (sys : System) (valid : Valid sys) where
  abbrev Walks : ℕ → ℕ → Type 0
  Walks u v = Walk (var_count sys) (copy_edge sys) u v

  from_member : (v u : ℕ) → component (copy_reach sys) v u ≡ true → Walks u v
  unfolding component copy_reach
  from_member v u e = reaches_walk (var_count sys) (copy_edge sys) u v (and_left _ _ (T-from _ e))

  pub is_member : (v u : ℕ) → Walks u v → Walks v u → component (copy_reach sys) v u ≡ true
  unfolding component copy_reach
  is_member v u there back =
      T_true (and_intro _ _ (walk_reaches (var_count sys) (copy_edge sys) u v there) (walk_reaches (var_count sys) (copy_edge sys) v u back))

  pub member_is : (reach : List ℕ) → ReachBits sys reach → (v u : ℕ) → v < var_count sys → u < var_count sys
      → member reach v u ≡ component (copy_reach sys) v u
  unfolding component
  member_is reach bits v u hv hu = ap₂ ◌&&◌ (bits u v hu hv) (bits v u hv hu)

  module _ (order : List ℕ) (arranged : Arranged (copy_edge sys) order (var_count sys)) where
    pub earlier : (k p q : ℕ) → k < var_count sys → p < var_count sys → q < var_count sys → Has sys (copy p q)
        → component (copy_reach sys) (get_or order k 0) p ≡ true → component (copy_reach sys) (get_or order k 0) q ≡ false
        → (j : ℕ) × (j < k) × (get_or order j 0 ≡ q)
    earlier k p q hk hp hq has p_in q_out =
        let v = get_or order k 0 in
        let hv : v < var_count sys = arranged.inside k hk in
        let (j, hj, is) = arranged.covers q hq in
        let down : Walks q v = walk_join (var_count sys) (copy_edge sys) q p v (along (here hq) (edge_intro sys p q has) hp) (from_member v p p_in) in
        elim (cases_order j k) [
          | inl e ↦
              let same : q ≡ v = sym is ∙ ap (λ x. get_or order x 0) e in
              absurd (both_ways _ q_out (subst (λ x. component (copy_reach sys) v x ≡ true) (sym same) (is_member v v (here hv) (here hv))))
          | inr (inl lt) ↦ (j, lt, is)
          | inr (inr gt) ↦ absurd (arranged.sorted k j gt hj (subst (λ x. Above (copy_edge sys) x v) (sym is)
              (record {
                there = walk_path sys valid q v down;
                apart = λ path. both_ways _ q_out (is_member v q down (path_walk sys valid v q hv path));
              })))
        ]
