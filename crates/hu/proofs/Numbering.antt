-- Equal numbers of rows are equal marks.
use Rattle.std.proofs.Common.{◌≡◌, ℕ, ◌+◌, ◌*◌, ◌/◌, ◌^◌, ◌<◌, T, List, length, get_or, sym, ◌∙◌, subst, arith}
use Rattle.graphs.proofs.Rows.{row_bits, row_ext}
use Rattle.graphs.specs.Keys.{SameRows}
use Rattle.graphs.proofs.Numbers.{rows_number, number_rows}
use Rattle.constraints.specs.Constraint.{System, Valid, var_count}
use Rattle.constraints.specs.Merge.{Source, object, row, loaded, mark, copy_reach, agree, equal_mark, same_mark}
use Rattle.constraints.proofs.Finite.{T_true, and_intro, every_intro}
use Rattle.constraints.proofs.Merge.{agree_all, agree_there, agree_back, mark_range, beq_refl}
use Rattle.layers.specs.Classes.{Numbers}
use Rattle.flows.proofs.Opening.{bool_same}
use Rattle.flows.proofs.Scans.{T-from}
use Rattle.flows.proofs.Putting.{at_object, at_row, at_loaded}
use Rattle.flows.specs.Columns.{source_at}
use Rattle.hu.specs.Marks.{MarkBits}

module _ (sys : System) (valid : Valid sys) (u v : ℕ) where
  mark_agrees : T (same_mark sys u v) → (s : Source) → mark sys (copy_reach sys) u s ≡ mark sys (copy_reach sys) v s
  mark_agrees t s =
      bool_same _ _
      (λ a. agree_there sys u v s (agree_all sys u v t s (mark_range sys valid u s a)) a)
      (λ a. agree_back sys u v s (agree_all sys u v t s (mark_range sys valid v s a)) a)

  agrees : (s : Source) → mark sys (copy_reach sys) u s ≡ mark sys (copy_reach sys) v s → T (agree sys (copy_reach sys) u v s)
  unfolding agree
  agrees s e = rw e (beq_refl (mark sys (copy_reach sys) v s))

  marks_equal : ((c : ℕ) → c < 2560 → mark sys (copy_reach sys) u (source_at c) ≡ mark sys (copy_reach sys) v (source_at c)) → T (same_mark sys u v)
  unfolding equal_mark
  marks_equal all =
      let at : (c : ℕ) (s : Source) → c < 2560 → source_at c ≡ s → T (agree sys (copy_reach sys) u v s) =
      λ c s h e. agrees s (subst (λ t. mark sys (copy_reach sys) u t ≡ mark sys (copy_reach sys) v t) e (all c h)) in
      every_intro (var_count sys) _ (λ x h.
      let hx : x < 256 = omega (arith, valid.few) in
      and_intro _ _ (and_intro _ _ (at x (object x) (omega arith) (at_object x hx)) (at (256 + x) (row x) (omega arith) (at_row x hx)))
      (every_intro 8 _ (λ k hk. at (512 + 8 * x + k) (loaded x k) (omega arith) (at_loaded x k hx hk))))

pub mark_numbers : (sys : System) → Valid sys → (m first : List ℕ) → length m ≡ 20480 → ((i : ℕ) → get_or m i 0 < 2 ^ 32)
    → MarkBits sys m → SameRows 80 m first → Numbers sys (same_mark sys) first
mark_numbers sys valid m first long typed bits numbered u v hu hv =
    let rows : length m / 80 ≡ 256 = omega arith in
    let few = valid.few in
    let u_in : u < 256 = omega arith in
    let v_in : v < 256 = omega arith in (
      (λ e. rows_number 80 256 m first rows numbered u v u_in v_in
          (row_ext 80 m u v typed (omega arith) (omega arith)
          (λ c h. bits u c hu h ∙ mark_agrees sys valid u v (T-from _ e) (source_at c) ∙ sym (bits v c hv h)))),
      (λ e. T_true (marks_equal sys valid u v (λ c h.
          sym (bits u c hu h) ∙ row_bits 80 m u v (number_rows 80 256 m first rows numbered u v u_in v_in e) c h ∙ bits v c hv h))),
    )
