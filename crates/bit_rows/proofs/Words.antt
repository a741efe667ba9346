-- One bit of the words set: one pair more.
use Rattle.std.proofs.Common.{◌≡◌, ℕ, zero, suc, ◌+◌, ◌-◌, ◌/◌, ◌%◌, ◌^◌, ◌<◌, ◌≤◌, Bool, true, false, cond, ◌&&◌, ◌||◌, eqb, leb, ◌⊎◌, List, length, get_or, drop, replicate, refl, ap, ◌∙◌, inl, inr, ⊎_elim, arith}
use mathlib.Core.Path.{fun_ext}
use lib.Bits.{bit_or}
use lib.Bits.{shifted_even}
use native.Mathlib.Nat.{div_self, div-eq_of_lt, zero-div}
use Rattle.std.proofs.lemmas.Nat.{or_shr, or_mod, pow_pos, pow-add, pow_below, shl-shr}
use Rattle.std.proofs.lemmas.Bool.{cases_order, cases_eq, cases_lt, le-leb, lt-leb, and_parts}
use Rattle.std.proofs.lemmas.List.{get_or-set_same, get_or-set_other, length-set, get_or_append_left, get_or-replicate, length-replicate, length-append, length-drop, drop_at, drop-set-lt}
use Rattle.std.proofs.lemmas.Bool.Decides.{nat_tests}
use Rattle.constraints.specs.Rows.{empty, with_pair, total}
use Rattle.constraints.proofs.Rows.{total_bound}
use Rattle.rows.specs.Stores.{in_range, Within}
use Rattle.rows.proofs.Counts.{total_empty, inside_parts}
use Rattle.bit_rows.specs.Bits.{bit, word_of, bit_pairs, put_bit, cleared, bit_room, bit_spare}

pow_bit : (k j : ℕ) → 2 ^ k / 2 ^ j % 2 ≡ cond (eqb j k) 1 0
pow_bit k j = go (cases_order j k)
  where
    go : (j ≡ k) ⊎ ((j < k) ⊎ (k < j)) → 2 ^ k / 2 ^ j % 2 ≡ cond (eqb j k) 1 0
    go (inl e) = let one : 2 ^ k / 2 ^ j ≡ 1 = rw e (div_self (pow_pos k)) in grind (arith, nat_tests)
    go (inr (inl l)) =
        let split : k ≡ suc (k - j - 1) + j = omega arith in
        let high : 2 ^ k / 2 ^ j ≡ 2 ^ suc (k - j - 1) = ap (λ n. 2 ^ n / 2 ^ j) split ∙ rw (pow-add 2 (suc (k - j - 1)) j) (shl-shr (2 ^ suc (k - j - 1)) j) in
        let even = shifted_even 1 (k - j - 1) in
        rw high (grind (arith, nat_tests))
    go (inr (inr l)) = let low : 2 ^ k / 2 ^ j ≡ 0 = div-eq_of_lt (pow_below k j l) in rw low (grind (arith, nat_tests))

or_bit : (x : ℕ) (b : Bool) → x < 2 → eqb (bit_or x (cond b 1 0)) 1 ≡ (eqb x 1 || b)
or_bit zero true h = refl
or_bit zero false h = refl
or_bit (suc zero) true h = refl
or_bit (suc zero) false h = refl
or_bit (suc (suc x)) b h = absurd (omega arith)

pub bit_or_bit : (w k j : ℕ) → bit (bit_or w (2 ^ k)) j ≡ (bit w j || eqb j k)
bit_or_bit w k j =
    rw (or_shr w (2 ^ k) j, or_mod (w / 2 ^ j) (2 ^ k / 2 ^ j) 1, pow_bit k j)
    (or_bit (w / 2 ^ j % 2) (eqb j k) (omega arith))

module _ (ws : List ℕ) (v o : ℕ) (enough : 2048 ≤ length ws) (hv : v < 256) (ho : o < 256) where
  bit_at : (w p : ℕ) → p < 256 → bit (get_or (put_bit ws v o) (word_of w p) 0) (p % 32) ≡ (bit (get_or ws (word_of w p) 0) (p % 32) || (eqb w v && eqb p o))
  bit_at w p hp = ⊎_elim
      (λ e. let same : eqb (p % 32) (o % 32) ≡ (eqb w v && eqb p o) = grind (arith, nat_tests) in
      rw (e, get_or-set_same ws (word_of v o) (bit_or (get_or ws (word_of v o) 0) (2 ^ (o % 32))) 0 (omega arith), bit_or_bit, same))
      (λ ne. let other : (eqb w v && eqb p o) ≡ false = grind (arith, nat_tests) in rw (get_or-set_other ws (word_of v o) (word_of w p) (bit_or (get_or ws (word_of v o) 0) (2 ^ (o % 32))) 0 ne, other) (grind (arith, nat_tests)))
      (cases_eq (word_of w p) (word_of v o))

  pub bit_rest : bit_spare (put_bit ws v o) ≡ bit_spare ws
  bit_rest = rw (length-set, le-leb 2048 (length ws) enough) (drop-set-lt 2048 ws (word_of v o) _ (omega arith))

  pub with_bit : bit_pairs (put_bit ws v o) ≡ with_pair (bit_pairs ws) v o
  with_bit = fun_ext (λ w. fun_ext (λ p. ⊎_elim
      (λ hp. rw (length-set, bit_at w p hp) (grind (arith, nat_tests)))
      (λ hp. grind (arith, nat_tests))
      (cases_lt p 256)))

module _ (n : ℕ) (ws : List ℕ) where
  cleared_at : (k : ℕ) → k < n → get_or (cleared n ws) k 0 ≡ 0
  unfolding cleared
  cleared_at k h =
      let inner : k < length (replicate n 0) = rw length-replicate h in
      get_or_append_left (replicate n 0) (drop n ws) 0 k inner ∙ get_or-replicate n k 0 0 h

  pub cleared_length : n ≤ length ws → length (cleared n ws) ≡ length ws
  unfolding cleared
  cleared_length h = simp (length-append, length-replicate, length-drop) (omega arith)

  pub cleared_rest : drop n (cleared n ws) ≡ drop n ws
  unfolding cleared
  cleared_rest = drop_at (replicate n 0) (drop n ws) n (length-replicate n 0)

no_bit : (w k : ℕ) → w ≡ 0 → bit w k ≡ false
no_bit w k e = rw (e, zero-div (2 ^ k))

pub no_bits : (ws : List ℕ) → bit_pairs (cleared 2048 ws) ≡ empty
no_bits ws = fun_ext (λ v. fun_ext (λ o. ⊎_elim
    (λ hv. ⊎_elim
    (λ ho. rw (no_bit (get_or (cleared 2048 ws) (word_of v o) 0) (o % 32) (cleared_at 2048 ws (word_of v o) (omega arith))) (grind (arith, nat_tests)))
    (λ ho. grind (arith, nat_tests))
    (cases_lt o 256))
    (λ hv. grind (arith, nat_tests))
    (cases_lt v 256)))

-- too few words hold no pair
pub no_words : (ws : List ℕ) → length ws < 2048 → bit_pairs ws ≡ empty
no_words ws short = fun_ext (λ v. fun_ext (λ o. rw (lt-leb 2048 (length ws) short)))

pub bit_within : (ws : List ℕ) → Within (bit_room ws) (bit_pairs ws)
bit_within ws = record {
  few = ⊎_elim
      (λ short. omega (arith, ap total (no_words ws short), total_empty))
      (λ enough. let room : bit_room ws ≡ 65536 = rw (le-leb 2048 (length ws) enough) in omega (arith, total_bound (bit_pairs ws)))
      (cases_lt (length ws) 2048);
  inside = λ v o is. inside_parts v o (and_parts (in_range v o) _ (and_parts (leb 2048 (length ws)) _ is).1).0;
}
