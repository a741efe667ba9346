-- Marks, gathered variable by variable.
use Rattle.std.proofs.Common.{◌≡◌, ℕ, zero, suc, ◌+◌, ◌<◌, Bool, true, false, ◌&&◌, ◌||◌, List, sym, refl, ap, ◌∙◌, ap₂, arith}
use Rattle.graphs.specs.Matrix.{bit, bit_at, row_at, Joined}
use Rattle.graphs.proofs.Rows.{row_bit_lem}
use Rattle.constraints.specs.Finite.{any}
use Rattle.constraints.specs.Constraint.{System, Valid, var_count}
use Rattle.constraints.specs.Merge.{mark, copy_reach}
use Rattle.flows.proofs.Opening.{or_none, or_assoc, any_more, any_zero}
use Rattle.flows.specs.Columns.{source_at, ReachBits, StandBits}
use Rattle.hu.specs.Marks.{gathered}

and_true : (a : Bool) → a ≡ (a && true)
and_true true = refl
and_true false = refl

and_false : (a : Bool) → false ≡ (a && false)
and_false true = refl
and_false false = refl

module _ (reach stand old : List ℕ) (u v : ℕ) where
  pub joined_bit : (new : List ℕ) → Joined 80 old new (row_at 80 stand u) v → bit reach u v ≡ true → (c : ℕ) → c < 2560
      → bit_at 80 new v c ≡ (bit_at 80 old v c || (bit_at 80 stand u c && bit reach u v))
  joined_bit new j e c h =
      j.joined c h
      ∙ ap (λ b. bit_at 80 old v c || b) (row_bit_lem 80 stand u c h ∙ and_true (bit_at 80 stand u c) ∙ ap (λ b. bit_at 80 stand u c && b) (sym e))

  pub passed_bit : bit reach u v ≡ false → (c : ℕ) → bit_at 80 old v c ≡ (bit_at 80 old v c || (bit_at 80 stand u c && bit reach u v))
  passed_bit e c =
      or_none (bit_at 80 old v c) ∙ ap (λ b. bit_at 80 old v c || b) (and_false (bit_at 80 stand u c) ∙ ap (λ b. bit_at 80 stand u c && b) (sym e))

pub gathered_none : (reach stand : List ℕ) (v c : ℕ) (old : Bool) → old ≡ (old || gathered reach stand v c 0)
gathered_none reach stand v c old = or_none old ∙ ap (λ b. old || b) (any_zero (λ u. bit_at 80 stand u c && bit reach u v))

pub gathered_more : (reach stand : List ℕ) (v c n : ℕ) (old so_far new : Bool) → so_far ≡ (old || gathered reach stand v c n)
    → new ≡ (so_far || (bit_at 80 stand n c && bit reach n v)) → new ≡ (old || gathered reach stand v c (n + 1))
gathered_more reach stand v c n old so_far new before step =
    let f : ℕ → Bool = λ u. bit_at 80 stand u c && bit reach u v in
    step ∙ ap (λ b. b || f n) before ∙ or_assoc old (any n f) (f n) ∙ ap (λ b. old || b) (sym (any_more n f))

any_same : (n : ℕ) (f g : ℕ → Bool) → ((i : ℕ) → i < n → f i ≡ g i) → any n f ≡ any n g
unfolding any
any_same zero f g same = refl
any_same (suc n) f g same = rw (same n (omega arith), any_same n f g (λ i h. same i (omega arith)))

pub gathered_mark : (sys : System) → Valid sys → (reach stand : List ℕ) → ReachBits sys reach → StandBits sys stand
    → (v c : ℕ) → v < var_count sys → c < 2560 → gathered reach stand v c (var_count sys) ≡ mark sys (copy_reach sys) v (source_at c)
unfolding mark
gathered_mark sys valid reach stand reaches standing v c hv hc =
    any_same (var_count sys) _ _ (λ u hu. ap₂ ◌&&◌ (standing u c (omega (arith, valid.few)) hc) (reaches u v hu hv))
