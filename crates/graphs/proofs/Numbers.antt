-- Positions have equal numbers exactly where their keys are the same; so rows that are equal.
use Rattle.std.proofs.Common.{◌≡◌, ℕ, ◌/◌, ◌<◌, ◌≤◌, Bool, true, List, length, get_or, sym, subst, inl, inr, arith}
use Rattle.std.proofs.lemmas.Slice.Eq.{bytes_eq-Decides}
use Rattle.std.proofs.lemmas.Bool.{cases_lt}
use Rattle.numbering.specs.Keys.{Equivalence, Numbered}
use Rattle.numbering.specs.Lists.{same_list}
use Rattle.numbering.proofs.Lists.{lists_equivalence}
use Rattle.graphs.specs.Matrix.{row_at}
use Rattle.graphs.specs.Keys.{SameRows}

module _ (n : ℕ) (same : ℕ → ℕ → Bool) (laws : Equivalence n same) (first : List ℕ) (numbered : Numbered same first n) where
  first_before : (u : ℕ) → u < n → get_or first u 0 ≤ u
  first_before u h =
      elim (cases_lt u (get_or first u 0)) [ inl lt ↦ absurd ((numbered u h).least u lt (laws.reflexive u h)) | inr ge ↦ ge ]

  lower : (u v : ℕ) → u < n → v < n → same u v ≡ true → get_or first v 0 ≤ get_or first u 0
  lower u v hu hv e =
      let f = get_or first u 0 in
      let hf : f < n = omega (arith, first_before u hu) in
      elim (cases_lt f (get_or first v 0)) [
        | inl lt ↦ absurd ((numbered v hv).least f lt (laws.transitive f u v hf hu hv (numbered u hu).alike e))
        | inr ge ↦ ge
      ]

  pub numbers_same : (u v : ℕ) → u < n → v < n → same u v ≡ true → get_or first u 0 ≡ get_or first v 0
  numbers_same u v hu hv e = omega (arith, lower u v hu hv e, lower v u hv hu (laws.symmetric u v hu hv e))

  pub same_numbers : (u v : ℕ) → u < n → v < n → get_or first u 0 ≡ get_or first v 0 → same u v ≡ true
  same_numbers u v hu hv e =
      let f = get_or first u 0 in
      let hf : f < n = omega (arith, first_before u hu) in
      laws.transitive u f v hu hf hv (laws.symmetric f u hf hu (numbered u hu).alike)
      (subst (λ x. same x v ≡ true) (sym e) (numbered v hv).alike)

module _ (w n : ℕ) (m first : List ℕ) (long : length m / w ≡ n) (numbered : SameRows w m first) where
  laws : Equivalence n (same_list (row_at w m))
  laws = lists_equivalence (row_at w m) n

  counted : Numbered (same_list (row_at w m)) first n
  counted = subst (Numbered (same_list (row_at w m)) first) long numbered

  pub rows_number : (u v : ℕ) → u < n → v < n → row_at w m u ≡ row_at w m v → get_or first u 0 ≡ get_or first v 0
  rows_number u v hu hv e = numbers_same n _ laws first counted u v hu hv ((bytes_eq-Decides (row_at w m u) (row_at w m v)).1 e)

  pub number_rows : (u v : ℕ) → u < n → v < n → get_or first u 0 ≡ get_or first v 0 → row_at w m u ≡ row_at w m v
  number_rows u v hu hv e = (bytes_eq-Decides (row_at w m u) (row_at w m v)).0 (same_numbers n _ laws first counted u v hu hv e)
