-- What searches over a range found.
use Rattle.std.proofs.Common.{◌≡◌, ℕ, ◌+◌, ◌-◌, ◌*◌, ◌/◌, ◌%◌, ◌^◌, ◌<◌, ◌≤◌, Bool, true, ◌≢◌, List, Option, Some, None, MatchOption, get_or, sym, ap, ◌∙◌, subst, subst₂, inl, inr, arith}
use native.Mathlib.Nat.{zero-div}
use Rattle.std.specs.Int.{w32, trailing_zeros}
use Rattle.std.proofs.lemmas.Bool.{cases_lt, eqb-true, eq-eqb}
use Rattle.std.proofs.lemmas.Nat.{shr-shr, shr_le}
use Rattle.std.proofs.lemmas.Nat.Bits.{bit_at-trailing_zeros, bit_at_above}
use Rattle.graphs.specs.Matrix.{bit_of, row_at}
use Rattle.graphs.proofs.Rows.{row_word}
use Rattle.hvn.specs.Columns.{FirstOf, NoneOf, NoneFrom, NextColumn, NoWordFrom, NextWord, LowestBit}

pub first_of : (n : ℕ) (test : ℕ → Bool) (r : Option ℕ)
    → MatchOption r ((k : ℕ) → 0 ≤ k → k < n → test k ≢ true) (λ p. (0 ≤ p) × (p < n) × (test p ≡ true) × ((k : ℕ) → 0 ≤ k → k < p → test k ≢ true))
    → MatchOption r (NoneOf n test) (FirstOf n test)
first_of n test None none = λ j below. none j (omega arith) below
first_of n test (Some p) found = record { inside = found.1; passes = found.2; least = λ j below. found.3 j (omega arith) below }

-- a word with nothing from bit s on has no bit there
none_above : (word s b : ℕ) → word / 2 ^ s ≡ 0 → s ≤ b → bit_of word b ≢ true
none_above word s b z le on =
    let split : s + (b - s) ≡ b = omega arith in
    let e : word / 2 ^ b ≡ 0 =
    ap (λ x. word / 2 ^ x) (sym split) ∙ sym (shr-shr word s (b - s)) ∙ ap (λ x. x / 2 ^ (b - s)) z ∙ zero-div (2 ^ (b - s)) in
    let one : word / 2 ^ b % 2 ≡ 1 = eqb-true (word / 2 ^ b % 2) 1 on in
    omega arith

pub lowest_bit_is : (word s : ℕ) → word < 2 ^ 32 → word / 2 ^ s ≢ 0 → LowestBit word s (s + trailing_zeros w32 (word / 2 ^ s))
lowest_bit_is word s fits some =
    let above = word / 2 ^ s in
    let t = trailing_zeros w32 above in
    let found = bit_at-trailing_zeros w32 above (omega (arith, some)) (omega (arith, shr_le word s)) in
    let at : word / 2 ^ (s + t) % 2 ≡ 1 = ap (λ x. x % 2) (sym (shr-shr word s t)) ∙ found.1 in
    record {
      from = omega arith;
      inside = elim (cases_lt (s + t) 32) [ inl lt ↦ lt | inr ge ↦ absurd (omega (arith, at, bit_at_above word 32 (s + t) fits ge)) ];
      set = eq-eqb (word / 2 ^ (s + t) % 2) 1 at;
      none = λ d ge lt on.
          let split : s + (d - s) ≡ d = omega arith in
          let one : word / 2 ^ d % 2 ≡ 1 = eqb-true (word / 2 ^ d % 2) 1 on in
          let zero : word / 2 ^ d % 2 ≡ 0 =
          ap (λ x. word / 2 ^ x % 2) (sym split) ∙ ap (λ x. x % 2) (sym (shr-shr word s (d - s))) ∙ found.2 (d - s) (omega arith) in
          omega (arith, one, zero);
    }

module _ (rows : List ℕ) (k low : ℕ) where
  word_is : (row : List ℕ) → row ≡ row_at 88 rows k → (j : ℕ) → j < 88 → get_or row j 0 ≡ get_or rows (88 * k + j) 0
  word_is row is j lt = ap (λ r. get_or r j 0) is ∙ row_word 88 rows k k k j lt

  -- what a search over the words of a row found
  pub word_from : (row : List ℕ) → row ≡ row_at 88 rows k → (r : Option ℕ)
      → MatchOption r ((j : ℕ) → low / 32 ≤ j → j < 88 → get_or row j 0 / 2 ^ (low - 32 * j) ≡ 0)
      (λ p. (low / 32 ≤ p) × (p < 88) × (get_or row p 0 / 2 ^ (low - 32 * p) ≢ 0) × ((j : ℕ) → low / 32 ≤ j → j < p → get_or row j 0 / 2 ^ (low - 32 * j) ≡ 0))
      → MatchOption r (NoWordFrom rows k low 88) (NextWord rows k low)
  word_from row is None none = λ j ge lt. ap (λ x. x / 2 ^ (low - 32 * j)) (sym (word_is row is j lt)) ∙ none j ge lt
  word_from row is (Some p) found = record {
    from = found.0;
    inside = found.1;
    some = λ z. found.2 (ap (λ x. x / 2 ^ (low - 32 * p)) (word_is row is p found.1) ∙ z);
    none = λ j ge lt. ap (λ x. x / 2 ^ (low - 32 * j)) (sym (word_is row is j (omega (arith, found.1)))) ∙ found.3 j ge lt;
  }

  pub none_before : (p : ℕ) → NoWordFrom rows k low p → NoneFrom rows k low (32 * p)
  none_before p none c ge lt =
      none_above (get_or rows (88 * k + c / 32) 0) (low - 32 * (c / 32)) (c % 32) (none (c / 32) (omega arith) (omega arith)) (omega arith)

  module _ (row : List ℕ) (is : row ≡ row_at 88 rows k) (p : ℕ) (next : NextWord rows k low p) where
    pub word_some : get_or row p 0 / 2 ^ (low - 32 * p) ≢ 0
    word_some z = next.some (ap (λ x. x / 2 ^ (low - 32 * p)) (sym (word_is row is p next.inside)) ∙ z)

    pub column_in_word : (b : ℕ) → LowestBit (get_or row p 0) (low - 32 * p) b → NextColumn rows k low (32 * p + b)
    column_in_word b found =
        let lt : p < 88 = next.inside in
        let below : b < 32 = found.inside in
        let le : low - 32 * p ≤ b = found.from in
        let q : (32 * p + b) / 32 ≡ p = omega arith in
        let r : (32 * p + b) % 32 ≡ b = omega arith in
        let same = word_is row is p lt in
        record {
          from = omega arith;
          inside = omega arith;
          set = subst₂ (λ x y. bit_of (get_or rows (88 * k + x) 0) y ≡ true) (sym q) (sym r) (subst (λ w. bit_of w b ≡ true) same found.set);
          none = λ c from_low before. elim (cases_lt c (32 * p)) [
            | inl earlier ↦ none_before p next.none c from_low earlier
            | inr within ↦
                let e : c / 32 ≡ p = omega arith in
                let d : c % 32 ≡ c - 32 * p = omega arith in
                subst₂ (λ x y. bit_of (get_or rows (88 * k + x) 0) y ≢ true) (sym e) (sym d)
                (subst (λ w. bit_of w (c - 32 * p) ≢ true) same (found.none (c - 32 * p) (omega arith) (omega arith)))
          ];
        }
