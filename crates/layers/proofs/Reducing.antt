-- The reduced list, word by word.
use Rattle.std.proofs.Common.{◌≡◌, ℕ, zero, suc, ◌+◌, ◌<◌, ◌≤◌, Bool, true, false, cond, ◌&&◌, ◌||◌, T, eqb, List, [], ◌∷◌, ◌++◌, length, Option, Some, None, unwrap_or, get_or, take, refl, ap, ◌∙◌, inl, inr, length-append, arith, eqb→eq}
use Rattle.std.specs.List.{list_any}
use Rattle.std.specs.Option.{MatchOption}
use Rattle.std.proofs.lemmas.List.{take_more}
use Rattle.std.proofs.lemmas.List.Folds.{list_any_at}
use Rattle.std.proofs.lemmas.Bool.{eq-eqb, ne_eqb}
use Rattle.constraints.specs.declared.constraint.Constraint.{Constraint}
use Rattle.constraints.specs.declared.constraint.Constraint.TheVariants.{Address as address, Copy as copy, Load as load, Store as store}
use Rattle.constraints.specs.Constraint.{kind, left, offset, right, decode, of_kind}
use Rattle.constraints.specs.Reduced.{renamed_word, self_copy, stands_in, keep_word, reduce_onto, own_position}
use Rattle.constraints.proofs.Finite.{T_true, any_intro, any_elim, or_cases}
use Rattle.flows.proofs.Opening.{bool_same}
use Rattle.flows.proofs.Scans.{T-from, lowest_is, lowest_none}

eqb-T : (a b : ℕ) → a ≡ b → T (eqb a b)
eqb-T a b e = rw (eq-eqb a b e) tt

-- the constraint is a copy of a variable onto itself
abbrev pub onto_itself : Constraint → Bool
onto_itself (address p o) = false
onto_itself (copy p q) = eqb p q
onto_itself (load p q k) = false
onto_itself (store p k q) = false

pub no_copy : (c : Constraint) → ((p q : ℕ) → c ≡ copy p q → ⊥) → false ≡ onto_itself c
no_copy (address p o) other = refl
no_copy (copy p q) other = absurd (other p q refl)
no_copy (load p q k) other = refl
no_copy (store p k q) other = refl

self_copy_kind : (n p k q : ℕ) → onto_itself (of_kind n p k q) ≡ (eqb n 1 && eqb p q)
self_copy_kind zero p k q = refl
self_copy_kind (suc zero) p k q = refl
self_copy_kind (suc (suc zero)) p k q = refl
self_copy_kind (suc (suc (suc n))) p k q = rw (ne_eqb (suc (suc (suc n))) 1 (λ e. omega arith))

pub self_copy_decoded : (w : ℕ) → onto_itself (decode w) ≡ self_copy w
unfolding self_copy decode
self_copy_decoded w = self_copy_kind (kind w) (left w) (offset w) (right w)

any_at : (words : List ℕ) (w : ℕ) → T (list_any (λ x. eqb x w) words) → (i : ℕ) × (i < length words) × T (eqb (get_or words i 0) w)
any_at [] w t = absurd t
any_at (x ∷ words) w t =
    elim (or_cases (eqb x w) (list_any (λ y. eqb y w) words) t) [
      | inl here ↦ (0, omega arith, here)
      | inr there ↦ let (i, lt, u) = any_at words w there in (suc i, omega arith, u)
    ]

-- the word stands in the list exactly if some word is equal to it
pub stands_any : (words : List ℕ) (w : ℕ) → list_any (λ x. eqb x w) words ≡ stands_in words w
unfolding stands_in
stands_any words w =
    bool_same _ _
    (λ t. let (i, lt, u) = any_at words w t in any_intro (length words) (λ j. eqb (get_or words j 0) w) i lt u)
    (λ t.
    let (i, lt, u) = any_elim (length words) (λ j. eqb (get_or words j 0) w) t in
    T-from _ (list_any_at (λ x. eqb x w) words i 0 lt (T_true u)))

pub keep_self : (kept : List ℕ) (w : ℕ) → self_copy w ≡ true → kept ≡ keep_word kept w
unfolding keep_word
keep_self kept w e = rw e

pub keep_repeat : (kept : List ℕ) (w : ℕ) → self_copy w ≡ false → stands_in kept w ≡ true → kept ≡ keep_word kept w
unfolding keep_word
keep_repeat kept w e f = rw (e, f)

pub keep_pushed : (kept : List ℕ) (w : ℕ) → self_copy w ≡ false → stands_in kept w ≡ false → kept ++ w ∷ [] ≡ keep_word kept w
unfolding keep_word
keep_pushed kept w e f = rw (e, f)

pub keep_long : (kept : List ℕ) (w : ℕ) → length (keep_word kept w) ≤ length kept + 1
unfolding keep_word
keep_long kept w = go (self_copy w || stands_in kept w)
  where
    go : (b : Bool) → length (cond b kept (kept ++ w ∷ [])) ≤ length kept + 1
    go true = omega arith
    go false = omega (arith, length-append kept (w ∷ []))

reduce_push : (rep : ℕ → ℕ) (kept words : List ℕ) (w : ℕ)
    → reduce_onto rep kept (words ++ w ∷ []) ≡ keep_word (reduce_onto rep kept words) (renamed_word rep w)
unfolding reduce_onto
reduce_push rep kept [] w = refl
reduce_push rep kept (x ∷ words) w = reduce_push rep (keep_word kept (renamed_word rep x)) words w

pub reduce_next : (rep : ℕ → ℕ) (words : List ℕ) (i : ℕ) → i < length words
    → reduce_onto rep [] (take (i + 1) words) ≡ keep_word (reduce_onto rep [] (take i words)) (renamed_word rep (get_or words i 0))
reduce_next rep words i h = ap (reduce_onto rep []) (take_more words i 0 h) ∙ reduce_push rep [] (take i words) (get_or words i 0)

pub reduce_none : (rep : ℕ → ℕ) (words : List ℕ) → [] ≡ reduce_onto rep [] (take 0 words)
unfolding reduce_onto
reduce_none rep words = refl

module _ (rep : ℕ → ℕ) (words : List ℕ) (x : ℕ) where
  pub earliest_here : (i : ℕ) → i < length words → renamed_word rep (get_or words i 0) ≡ x
      → ((k : ℕ) → k < i → renamed_word rep (get_or words k 0) ≡ x → ⊥) → i ≡ own_position rep words x
  unfolding own_position
  earliest_here i h e none =
      lowest_is (length words) (λ j. eqb (renamed_word rep (get_or words j 0)) x) i h (eqb-T _ x e)
      (λ j lt t. none j lt (eqb→eq (renamed_word rep (get_or words j 0)) x t))

  pub earliest_none : ((k : ℕ) → k < length words → renamed_word rep (get_or words k 0) ≡ x → ⊥) → length words ≡ own_position rep words x
  unfolding own_position
  earliest_none none =
      lowest_none (length words) (λ j. eqb (renamed_word rep (get_or words j 0)) x)
      (λ j lt t. none j lt (eqb→eq (renamed_word rep (get_or words j 0)) x t))

  -- what a search by position found
  pub earliest_found : (r : Option ℕ)
      → MatchOption r ((k : ℕ) → 0 ≤ k → k < length words → renamed_word rep (get_or words k 0) ≡ x → ⊥)
      (λ i. (0 ≤ i) × (i < length words) × (renamed_word rep (get_or words i 0) ≡ x) × ((k : ℕ) → 0 ≤ k → k < i → renamed_word rep (get_or words k 0) ≡ x → ⊥))
      → (unwrap_or r (length words) ≤ length words) × (unwrap_or r (length words) ≡ own_position rep words x)
  earliest_found None none = (omega arith, earliest_none (λ k below. none k (omega arith) below))
  earliest_found (Some i) found = (omega (arith, found.1), earliest_here i found.1 found.2 (λ k below. found.3 k (omega arith) below))
