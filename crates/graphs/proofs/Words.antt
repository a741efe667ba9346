-- Single bits of words, and words of a matrix.
use Rattle.std.proofs.Common.{◌≡◌, ℕ, zero, suc, ◌+◌, ◌-◌, ◌*◌, ◌/◌, ◌%◌, ◌^◌, ◌<◌, ◌≤◌, Bool, true, false, ◌||◌, eqb, ◌≢◌, ◌⊎◌, List, length, get_or, set, sym, refl, ap, ◌∙◌, subst₂, inl, inr, ⊎_elim, mul-le-mul_left, pow-suc, mul-suc, arith}
use native.Mathlib.Nat.{mul-mod_left, div-eq_of_lt, div_self, mul-div-le, zero-div}
use lib.Bits.{bit_or}
use Rattle.std.proofs.lemmas.Nat.{or_shr, or_mod, mod_below, pow_below, pow_pos, shl-shr, pow-add}
use Rattle.std.proofs.lemmas.List.{get_or-set_same, get_or-set_other}
use Rattle.std.proofs.lemmas.Bool.{cases_lt, cases_eq}
use Rattle.graphs.specs.Matrix.{bit_of, bit_at, Put, Joined, Blank}

digit : (d : ℕ) → d < 2 → (d ≡ 0) ⊎ (d ≡ 1)
digit zero h = inl refl
digit (suc d) h = inr (omega arith)

or_digit : (d e : ℕ) → d < 2 → e < 2 → eqb (bit_or d e) 1 ≡ (eqb d 1 || eqb e 1)
or_digit d e hd he =
    let G : ℕ → ℕ → Type 0 = λ x y. eqb (bit_or x y) 1 ≡ (eqb x 1 || eqb y 1) in
    ⊎_elim
    (λ p. ⊎_elim (λ q. subst₂ G (sym p) (sym q) refl) (λ q. subst₂ G (sym p) (sym q) refl) (digit e he))
    (λ p. ⊎_elim (λ q. subst₂ G (sym p) (sym q) refl) (λ q. subst₂ G (sym p) (sym q) refl) (digit e he))
    (digit d hd)

pub or_bit : (a b k : ℕ) → bit_of (bit_or a b) k ≡ (bit_of a k || bit_of b k)
or_bit a b k =
    ap (λ x. eqb (x % 2) 1) (or_shr a b k) ∙ ap (λ x. eqb x 1) (or_mod (a / 2 ^ k) (b / 2 ^ k) 1)
    ∙ or_digit (a / 2 ^ k % 2) (b / 2 ^ k % 2) (mod_below (a / 2 ^ k) 2 (omega arith)) (mod_below (b / 2 ^ k) 2 (omega arith))

pub pow_bit : (k : ℕ) → bit_of (2 ^ k) k ≡ true
pow_bit k = ap (λ x. eqb (x % 2) 1) (div_self (pow_pos k))

even_pow : (d : ℕ) → 2 ^ suc d % 2 ≡ 0
even_pow d = ap (λ x. x % 2) (pow-suc 2 d) ∙ mul-mod_left (2 ^ d) 2

pub pow_bit_other : (k j : ℕ) → j ≢ k → bit_of (2 ^ k) j ≡ false
pow_bit_other k j ne =
    ⊎_elim
    (λ lt. ap (λ x. eqb (x % 2) 1) (div-eq_of_lt (pow_below k j lt)))
    (λ le.
    let d = k - j - 1 in
    let split : k ≡ suc d + j = omega arith in
    ap (λ x. eqb (2 ^ x / 2 ^ j % 2) 1) split
    ∙ ap (λ x. eqb (x / 2 ^ j % 2) 1) (pow-add 2 (suc d) j)
    ∙ ap (λ x. eqb (x % 2) 1) (shl-shr (2 ^ suc d) j)
    ∙ ap (λ x. eqb x 1) (even_pow d))
    (cases_lt k j)

or_false : (b : Bool) → (b || false) ≡ b
or_false true = refl
or_false false = refl

or_true : (b : Bool) → (b || true) ≡ true
or_true true = refl
or_true false = refl

-- a row ends before the next begins
pub rows_apart : (w x u : ℕ) → x < u → w * x + w ≤ w * u
rows_apart w x u h = omega (arith, mul-le-mul_left w h, mul-suc w x)

-- a row below the count of rows lies within the words
pub row_within : (w n i : ℕ) → i < n / w → w * i + w ≤ n
row_within w n i h = omega (arith, rows_apart w i (n / w) h, mul-div-le n w)

-- words of two rows stand apart
words_apart : (w x u p q : ℕ) → x ≢ u → p < w → q < w → w * x + p ≢ w * u + q
words_apart w x u p q ne hp hq =
    ⊎_elim (λ lt. omega (arith, rows_apart w x u lt)) (λ le. omega (arith, rows_apart w u x (omega arith))) (cases_lt x u)

module _ (w : ℕ) (m : List ℕ) (u v : ℕ) (long : w * u + w ≤ length m) (hv : v < 32 * w) where
  pub put_sets : Put w m (set m (w * u + v / 32) (bit_or (get_or m (w * u + v / 32) 0) (2 ^ (v % 32)))) u v
  put_sets =
      let i = w * u + v / 32 in
      let new = bit_or (get_or m i 0) (2 ^ (v % 32)) in
      let now : get_or (set m i new) i 0 ≡ new = get_or-set_same m i new 0 (omega arith) in
      record {
        here = ap (λ x. bit_of x (v % 32)) now ∙ or_bit (get_or m i 0) (2 ^ (v % 32)) (v % 32)
            ∙ ap (λ b. bit_of (get_or m i 0) (v % 32) || b) (pow_bit (v % 32)) ∙ or_true (bit_of (get_or m i 0) (v % 32));
        column = λ y hy ne. ⊎_elim
            (λ (same : y / 32 ≡ v / 32).
            let other : y % 32 ≢ v % 32 = omega arith in
            ap (λ q. bit_of (get_or (set m i new) (w * u + q) 0) (y % 32)) same
            ∙ ap (λ x. bit_of x (y % 32)) now ∙ or_bit (get_or m i 0) (2 ^ (v % 32)) (y % 32)
            ∙ ap (λ b. bit_of (get_or m i 0) (y % 32) || b) (pow_bit_other (v % 32) (y % 32) other)
            ∙ or_false (bit_of (get_or m i 0) (y % 32))
            ∙ ap (λ q. bit_of (get_or m (w * u + q) 0) (y % 32)) (sym same))
            (λ differ. ap (λ x. bit_of x (y % 32)) (get_or-set_other m i (w * u + y / 32) new 0 (omega (arith, differ))))
            (cases_eq (y / 32) (v / 32));
        row = λ x y hy ne. ap (λ z. bit_of z (y % 32))
            (get_or-set_other m i (w * x + y / 32) new 0 (words_apart w x u (y / 32) (v / 32) ne (omega arith) (omega arith)));
      }

-- the first n words of row u are joined
pub record Joining (w : ℕ) (m₀ m row : List ℕ) (u n : ℕ) : Type 0 where
  pub done : (p : ℕ) → p < n → get_or m (w * u + p) 0 ≡ bit_or (get_or m₀ (w * u + p) 0) (get_or row p 0)
  pub before : (i : ℕ) → i < w * u → get_or m i 0 ≡ get_or m₀ i 0
  pub after : (i : ℕ) → w * u + n ≤ i → get_or m i 0 ≡ get_or m₀ i 0

module _ (w : ℕ) (m₀ m row : List ℕ) (u n : ℕ) (j : Joining w m₀ m row u n) where
  pub joined_all : n ≡ w → Joined w m₀ m row u
  joined_all e = record {
    joined = λ v hv. ap (λ x. bit_of x (v % 32)) (j.done (v / 32) (omega arith)) ∙ or_bit _ _ (v % 32);
    others = λ x v hv ne. ap (λ z. bit_of z (v % 32))
        (⊎_elim
        (λ lt. j.before (w * x + v / 32) (omega (arith, rows_apart w x u lt)))
        (λ le. j.after (w * x + v / 32) (omega (arith, rows_apart w u x (omega arith))))
        (cases_lt x u));
  }

  pub joining_more : n < w → w * u + n < length m
      → Joining w m₀ (set m (w * u + n) (bit_or (get_or m (w * u + n) 0) (get_or row n 0))) row u (n + 1)
  joining_more hn long =
      let i = w * u + n in
      let x = bit_or (get_or m i 0) (get_or row n 0) in
      record {
        done = λ p hp. ⊎_elim
            (λ e. ap (λ q. get_or (set m i x) (w * u + q) 0) e ∙ get_or-set_same m i x 0 long
            ∙ ap (λ y. bit_or y (get_or row n 0)) (j.after i (omega arith))
            ∙ ap (λ q. bit_or (get_or m₀ (w * u + q) 0) (get_or row q 0)) (sym e))
            (λ ne. get_or-set_other m i (w * u + p) x 0 (omega arith) ∙ j.done p (omega arith))
            (cases_eq p n);
        before = λ p hp. get_or-set_other m i p x 0 (omega arith) ∙ j.before p hp;
        after = λ p hp. get_or-set_other m i p x 0 (omega arith) ∙ j.after p (omega arith);
      }

-- a blank matrix has no bit
pub blank_bit : (n w : ℕ) (m : List ℕ) (u v : ℕ) → Blank n m → w * u + w ≤ n → v < 32 * w → bit_at w m u v ≡ false
blank_bit n w m u v blank long hv =
    ap (λ x. bit_of x (v % 32)) (blank (w * u + v / 32) (omega arith)) ∙ ap (λ x. eqb (x % 2) 1) (zero-div (2 ^ (v % 32)))
