-- A list with one more block, or one more word.
use Rattle.std.proofs.Common.{◌≡◌, ℕ, ◌<◌, ◌≤◌, ◌≢◌, List, [], ◌∷◌, ◌++◌, length, get_or, set, subst, sym, ap, ◌∙◌, inl, inr, arith, length-append, get_or-set_other, get_or-set_same}
use Rattle.std.proofs.lemmas.List.{get_or_push, get_or_append_left}
use Rattle.std.proofs.lemmas.Bool.{cases_eq}
use Rattle.constraints.specs.Constraint.{variables, length_of}
use Rattle.constraints.proofs.Formed.{length_of_other, length_of_end}

pub each_push : (P : ℕ → Type 0) (xs : List ℕ) (x : ℕ) → ((i : ℕ) → i < length xs → P (get_or xs i 0)) → P x
    → (i : ℕ) → i < length (xs ++ x ∷ []) → P (get_or (xs ++ x ∷ []) i 0)
each_push P xs x each last i h =
    elim (cases_eq i (length xs)) [
      | inl e ↦ subst P (sym (get_or_push xs x 0 i (sym e))) last
      | inr ne ↦
          let inside : i < length xs = omega (arith, length-append xs (x ∷ []), ne) in
          subst P (sym (get_or_append_left xs (x ∷ []) 0 i inside)) (each i inside)
    ]

-- the table of the blocks' first variables
pub told_push : (bs : List ℕ) (n width : ℕ) (starting : List ℕ) → width < length starting → width ≡ variables bs
    → ((i : ℕ) → i < length bs → (0 < get_or bs i 0) × (get_or bs i 0 ≤ 8))
    → ((o : ℕ) → get_or starting o 0 ≡ length_of bs o)
    → (o : ℕ) → get_or (set starting width n) o 0 ≡ length_of (bs ++ n ∷ []) o
told_push bs n width starting inside counted sized told o =
    elim (cases_eq o width) [
      | inl e ↦ rw (e, get_or-set_same) (sym (length_of_end bs n (λ i h. (sized i h).0)) ∙ ap (length_of (bs ++ n ∷ [])) (sym counted))
      | inr ne ↦
          let apart : o ≢ width = ne in
          rw get_or-set_other (told o ∙ sym (length_of_other bs n o (λ e. ne (e ∙ sym counted))))
    ]
