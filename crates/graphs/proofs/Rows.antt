-- Rows are equal where their bits are.
use Rattle.std.proofs.Common.{◌≡◌, ℕ, zero, suc, ◌+◌, ◌*◌, ◌/◌, ◌%◌, ◌^◌, ◌<◌, ◌≤◌, eqb, List, length, get_or, sym, ap, ◌∙◌, subst₂, pow-suc, div-one, arith}
use Rattle.std.proofs.lemmas.Nat.{shr-shr, mod_below}
use Rattle.std.proofs.lemmas.List.Edits.{length-between, get_or-between}
use Rattle.std.proofs.lemmas.List.{ext_get_or}
use Rattle.std.proofs.lemmas.Bool.Decides.{nat_tests}
use Rattle.graphs.specs.Matrix.{bit_of, bit_at, row_bit, row_at}

-- two digits are equal where their tests are
digits_same : (d e : ℕ) → d < 2 → e < 2 → eqb d 1 ≡ eqb e 1 → d ≡ e
digits_same d e hd he t = grind (arith, nat_tests)

half_bit : (a k : ℕ) → bit_of (a / 2) k ≡ bit_of a (suc k)
half_bit a k =
    let next : 1 + k ≡ suc k = omega arith in
    ap (λ x. eqb (x % 2) 1) (shr-shr a 1 k ∙ ap (λ x. a / 2 ^ x) next)

low_bit : (a : ℕ) → bit_of a 0 ≡ eqb (a % 2) 1
low_bit a = ap (λ x. eqb (x % 2) 1) (div-one a)

-- a word of n bits is determined by its bits
pub word_ext : (n a b : ℕ) → a < 2 ^ n → b < 2 ^ n → ((k : ℕ) → k < n → bit_of a k ≡ bit_of b k) → a ≡ b
word_ext zero a b ha hb same = omega arith
word_ext (suc n) a b ha hb same =
    let high : a / 2 ≡ b / 2 =
    word_ext n (a / 2) (b / 2) (omega (arith, pow-suc 2 n)) (omega (arith, pow-suc 2 n))
    (λ k h. half_bit a k ∙ same (suc k) (omega arith) ∙ sym (half_bit b k)) in
    let low : a % 2 ≡ b % 2 =
    digits_same (a % 2) (b % 2) (mod_below a 2 (omega arith)) (mod_below b 2 (omega arith))
    (sym (low_bit a) ∙ same 0 (omega arith) ∙ low_bit b) in
    omega arith

pub row_length : (w : ℕ) (m : List ℕ) (u : ℕ) → w * u + w ≤ length m → length (row_at w m u) ≡ w
row_length w m u h = length-between m (w * u) (w * u + w) h ∙ omega arith

module _ (w : ℕ) (m : List ℕ) (u v : ℕ) where
  pub row_word : (x p : ℕ) → p < w → get_or (row_at w m x) p 0 ≡ get_or m (w * x + p) 0
  row_word x p h = get_or-between m (w * x) (w * x + w) p 0 (omega arith)

  -- equal rows have equal bits
  pub row_bits : row_at w m u ≡ row_at w m v → (k : ℕ) → k < 32 * w → bit_at w m u k ≡ bit_at w m v k
  row_bits e k h =
      ap (λ x. bit_of x (k % 32))
      (sym (row_word u (k / 32) (omega arith)) ∙ ap (λ r. get_or r (k / 32) 0) e ∙ row_word v (k / 32) (omega arith))

  -- rows with equal bits are equal
  pub row_ext : ((i : ℕ) → get_or m i 0 < 2 ^ 32) → w * u + w ≤ length m → w * v + w ≤ length m
      → ((k : ℕ) → k < 32 * w → bit_at w m u k ≡ bit_at w m v k) → row_at w m u ≡ row_at w m v
  row_ext typed hu hv same =
      let lu = row_length w m u hu in
      ext_get_or 0 (row_at w m u) (row_at w m v) (lu ∙ sym (row_length w m v hv))
      (λ p hp.
      let hpw : p < w = omega arith in
      row_word u p hpw
      ∙ word_ext 32 (get_or m (w * u + p) 0) (get_or m (w * v + p) 0) (typed (w * u + p)) (typed (w * v + p))
      (λ k hk. at k hk p hpw)
      ∙ sym (row_word v p hpw))
    where
      at : (k : ℕ) → k < 32 → (p : ℕ) → p < w → bit_of (get_or m (w * u + p) 0) k ≡ bit_of (get_or m (w * v + p) 0) k
      at k hk p hp =
          let q : (32 * p + k) / 32 ≡ p = omega arith in
          let r : (32 * p + k) % 32 ≡ k = omega arith in
          let both = same (32 * p + k) (omega arith) in
          subst₂ (λ x y. bit_of (get_or m (w * u + x) 0) y ≡ bit_of (get_or m (w * v + x) 0) y) q r both

-- what a row taken out of a matrix holds
pub row_bit_lem : (w : ℕ) (m : List ℕ) (u v : ℕ) → v < 32 * w → row_bit (row_at w m u) v ≡ bit_at w m u v
row_bit_lem w m u v hv = ap (λ x. bit_of x (v % 32)) (row_word w m u u u (v / 32) (omega arith))
