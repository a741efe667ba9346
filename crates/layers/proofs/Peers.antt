-- The representative of a variable, from flags and class numbers.
use Rattle.std.proofs.Common.{◌≡◌, ℕ, suc, ◌<◌, ◌≤◌, Bool, true, false, not, ◌&&◌, T, List, Option, Some, None, MatchOption, unwrap_or, get_or, sym, refl, ◌∙◌, inl, inr, arith}
use Rattle.std.proofs.lemmas.Bool.{cases_lt, and_from, and_parts, not-true, not_from_false}
use Rattle.constraints.specs.Finite.{any}
use Rattle.constraints.specs.Constraint.{System, var_count}
use Rattle.constraints.specs.Merge.{is_open, representative, open_peer, plain_peer}
use Rattle.constraints.proofs.Finite.{T_true, any_intro}
use Rattle.layers.specs.Classes.{Numbers, Flags, Peer, NoneBelow, LowestBelow}
use Rattle.flows.proofs.Scans.{T-from, any_none, lowest_is}

module _ (sys : System) (same : ℕ → ℕ → Bool) (flags : List Bool) (class : List ℕ) (n v : ℕ) (width : n ≡ var_count sys)
    (told : Flags sys flags) (numbers : Numbers sys same class) (inside : v < n) where
  in_sys : (u : ℕ) → u < n → u < var_count sys
  in_sys u h = omega arith

  open_from : (u : ℕ) → u < n → Peer flags class true (get_or class v 0) u → T (open_peer sys same v u)
  open_from u h peer =
      T-from (is_open sys u && same u v)
      (and_from (is_open sys u) (same u v) (sym (told u (in_sys u h)) ∙ peer.0) ((numbers u v (in_sys u h) (in_sys v inside)).1 peer.1))

  open_to : (u : ℕ) → u < n → T (open_peer sys same v u) → Peer flags class true (get_or class v 0) u
  open_to u h t =
      let parts = and_parts (is_open sys u) (same u v) (T_true t) in
      (told u (in_sys u h) ∙ parts.0, (numbers u v (in_sys u h) (in_sys v inside)).0 parts.1)

  plain_from : (u : ℕ) → u < n → Peer flags class false (get_or class v 0) u → T (plain_peer sys same v u)
  plain_from u h peer =
      T-from (not (is_open sys u) && same u v)
      (and_from (not (is_open sys u)) (same u v) (not_from_false (is_open sys u) (sym (told u (in_sys u h)) ∙ peer.0))
      ((numbers u v (in_sys u h) (in_sys v inside)).1 peer.1))

  plain_to : (u : ℕ) → u < n → T (plain_peer sys same v u) → Peer flags class false (get_or class v 0) u
  plain_to u h t =
      let parts = and_parts (not (is_open sys u)) (same u v) (T_true t) in
      (told u (in_sys u h) ∙ not-true (is_open sys u) parts.0, (numbers u v (in_sys u h) (in_sys v inside)).0 parts.1)

  pub stays : get_or flags v false ≡ true → v ≡ representative sys same v
  unfolding representative
  stays e = rw (sym (told v (in_sys v inside)) ∙ e)

  pub by_open : get_or flags v false ≡ false → (u : ℕ) → LowestBelow n (Peer flags class true (get_or class v 0)) u → u ≡ representative sys same v
  unfolding representative
  by_open plain u low =
      let some : any (var_count sys) (open_peer sys same v) ≡ true =
      T_true (any_intro _ _ u (in_sys u low.inside) (open_from u low.inside low.has)) in
      rw (sym (told v (in_sys v inside)) ∙ plain, some)
      (lowest_is (var_count sys) (open_peer sys same v) u (in_sys u low.inside) (open_from u low.inside low.has)
      (λ j lt t. low.least j lt (open_to j (omega (arith, low.inside)) t)))

  -- v is a plain peer of its own, so the lowest one is not above it
  lowest_plain : get_or flags v false ≡ false → (u : ℕ) → LowestBelow n (Peer flags class false (get_or class v 0)) u → u < suc v
  lowest_plain plain u low = elim (cases_lt v u) [ inl lt ↦ absurd (low.least v lt (plain, refl)) | inr ge ↦ omega arith ]

  pub by_plain : get_or flags v false ≡ false → NoneBelow n (Peer flags class true (get_or class v 0))
      → (u : ℕ) → LowestBelow n (Peer flags class false (get_or class v 0)) u → u ≡ representative sys same v
  unfolding representative
  by_plain plain no_open u low =
      let none_open : any (var_count sys) (open_peer sys same v) ≡ false =
      any_none (var_count sys) (open_peer sys same v) (λ j lt t. let k : j < n = omega arith in no_open j k (open_to j k t)) in
      let h = lowest_plain plain u low in
      rw (sym (told v (in_sys v inside)) ∙ plain, none_open)
      (lowest_is (suc v) (plain_peer sys same v) u h (plain_from u low.inside low.has)
      (λ j lt t. low.least j lt (plain_to j (omega (arith, low.inside)) t)))

  pub by_plain_or : get_or flags v false ≡ false → NoneBelow n (Peer flags class true (get_or class v 0))
      → (r : Option ℕ) → MatchOption r (NoneBelow n (Peer flags class false (get_or class v 0))) (LowestBelow n (Peer flags class false (get_or class v 0)))
      → unwrap_or r v ≡ representative sys same v
  by_plain_or plain no_open None none = absurd (none v inside (plain, refl))
  by_plain_or plain no_open (Some u) low = by_plain plain no_open u low

-- what a search by number found
pub lowest_below : (n : ℕ) (P : ℕ → Type 0) (r : Option ℕ)
    → MatchOption r ((k : ℕ) → 0 ≤ k → k < n → P k → ⊥) (λ p. (0 ≤ p) × (p < n) × P p × ((k : ℕ) → 0 ≤ k → k < p → P k → ⊥))
    → MatchOption r (NoneBelow n P) (LowestBelow n P)
lowest_below n P None none = λ j below. none j (omega arith) below
lowest_below n P (Some p) found = record { inside = found.1; has = found.2; least = λ j below. found.3 j (omega arith) below }
