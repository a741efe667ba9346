-- Sources as columns, put bit by bit.
use Rattle.std.proofs.Common.{◌≡◌, ℕ, ◌+◌, ◌-◌, ◌*◌, ◌/◌, ◌%◌, ◌<◌, ◌≤◌, Bool, true, false, ◌&&◌, ◌||◌, eqb, ltb, ◌⊎◌, List, get_or, sym, refl, ap, ap₂, ◌∙◌, subst, inl, inr, arith}
use Rattle.std.proofs.lemmas.Bool.{cases_eq, cases_lt, eq-eqb, ne_eqb, lt-ltb, le-ltb}
use Rattle.graphs.specs.Matrix.{bit_at, Put}
use Rattle.constraints.specs.declared.constraint.Constraint.TheVariants.{Address as address, Load as load}
use Rattle.constraints.specs.Merge.{object, row, loaded, same_source, brings}
use Rattle.flows.proofs.Opening.{or_none}
use Rattle.flows.specs.Columns.{source_at}

eqb_same : (a b c d : ℕ) → (a ≡ b → c ≡ d) → (c ≡ d → a ≡ b) → eqb a b ≡ eqb c d
eqb_same a b c d there back =
    elim (cases_eq a b) [
      | inl e ↦ eq-eqb a b e ∙ sym (eq-eqb c d (there e))
      | inr ne ↦ ne_eqb a b ne ∙ sym (ne_eqb c d (λ e. ne (back e)))
    ]

pub column_object : (o c : ℕ) → o < 256 → same_source (object o) (source_at c) ≡ eqb o c
unfolding source_at
column_object o c small =
    elim (cases_lt c 256) [
      | inl low ↦ rw (lt-ltb c 256 low)
      | inr high ↦ elim (cases_lt c 512) [
        | inl mid ↦ rw (le-ltb c 256 high, lt-ltb c 512 mid) (sym (ne_eqb o c (λ e. omega arith)))
        | inr top ↦ rw (le-ltb c 256 high, le-ltb c 512 top) (sym (ne_eqb o c (λ e. omega arith)))
      ]
    ]

pub column_row : (v c : ℕ) → v < 256 → same_source (row v) (source_at c) ≡ eqb (256 + v) c
unfolding source_at
column_row v c small =
    elim (cases_lt c 256) [
      | inl low ↦ rw (lt-ltb c 256 low) (sym (ne_eqb (256 + v) c (λ e. omega arith)))
      | inr high ↦ elim (cases_lt c 512) [
        | inl mid ↦ rw (le-ltb c 256 high, lt-ltb c 512 mid) (eqb_same v (c - 256) (256 + v) c (λ e. omega arith) (λ e. omega arith))
        | inr top ↦ rw (le-ltb c 256 high, le-ltb c 512 top) (sym (ne_eqb (256 + v) c (λ e. omega arith)))
      ]
    ]

both_same : (a b c d n m : ℕ) → (a ≡ b → c ≡ d → n ≡ m) → (n ≡ m → (a ≡ b) × (c ≡ d)) → (eqb a b && eqb c d) ≡ eqb n m
both_same a b c d n m there back =
    elim (cases_eq n m) [
      | inl e ↦ rw (eq-eqb n m e, eq-eqb a b (back e).0, eq-eqb c d (back e).1)
      | inr ne ↦ elim (cases_eq a b) [
        | inl e ↦ rw (ne_eqb n m ne, eq-eqb a b e) (ne_eqb c d (λ f. ne (there e f)))
        | inr ne' ↦ rw (ne_eqb n m ne, ne_eqb a b ne')
      ]
    ]

pub column_loaded : (q k c : ℕ) → q < 256 → k < 8 → same_source (loaded q k) (source_at c) ≡ eqb (512 + 8 * q + k) c
unfolding source_at
column_loaded q k c small slot =
    elim (cases_lt c 256) [
      | inl low ↦ rw (lt-ltb c 256 low) (sym (ne_eqb (512 + 8 * q + k) c (λ e. omega arith)))
      | inr high ↦ elim (cases_lt c 512) [
        | inl mid ↦ rw (le-ltb c 256 high, lt-ltb c 512 mid) (sym (ne_eqb (512 + 8 * q + k) c (λ e. omega arith)))
        | inr top ↦ rw (le-ltb c 256 high, le-ltb c 512 top)
            (both_same q ((c - 512) / 8) k ((c - 512) % 8) (512 + 8 * q + k) c (λ e f. omega arith) (λ e. (omega arith, omega arith)))
      ]
    ]

-- the columns of the sources
pub at_object : (x : ℕ) → x < 256 → source_at x ≡ object x
unfolding source_at
at_object x h = rw (lt-ltb x 256 h)

pub at_row : (x : ℕ) → x < 256 → source_at (256 + x) ≡ row x
unfolding source_at
at_row x h =
    let back : 256 + x - 256 ≡ x = omega arith in
    rw (le-ltb (256 + x) 256 (omega arith), lt-ltb (256 + x) 512 (omega arith), back)

pub at_loaded : (q k : ℕ) → q < 256 → k < 8 → source_at (512 + 8 * q + k) ≡ loaded q k
unfolding source_at
at_loaded q k hq hk =
    let slot : (512 + 8 * q + k - 512) / 8 ≡ q = omega arith in
    let rest : (512 + 8 * q + k - 512) % 8 ≡ k = omega arith in
    rw (le-ltb (512 + 8 * q + k) 256 (omega arith), le-ltb (512 + 8 * q + k) 512 (omega arith), slot, rest)

or_true : (a : Bool) → true ≡ (a || true)
or_true true = refl
or_true false = refl

-- one bit is put, in rows of n words
pub put_bit : (n : ℕ) (m m' : List ℕ) (p x u c : ℕ) → Put n m m' p x → c < 32 * n → bit_at n m' u c ≡ (bit_at n m u c || (eqb p u && eqb x c))
put_bit n m m' p x u c put small =
    elim (cases_eq p u) [
      | inl e ↦ elim (cases_eq x c) [
        | inl f ↦ rw (eq-eqb p u e, eq-eqb x c f) (subst (λ y. bit_at n m' u y ≡ true) f (subst (λ y. bit_at n m' y x ≡ true) e put.here) ∙ or_true (bit_at n m u c))
        | inr nf ↦ rw (eq-eqb p u e, ne_eqb x c nf) (subst (λ y. bit_at n m' y c ≡ bit_at n m y c) e (put.column c small (λ g. nf (sym g))) ∙ or_none (bit_at n m u c))
      ]
      | inr ne ↦ rw (ne_eqb p u ne) (put.row u c small (λ g. ne (sym g)) ∙ or_none (bit_at n m u c))
    ]

-- a source is brought where its bit is put: the bit of variable u and column c, put at variable v and column x
pub brings_address : (p o v x u c : ℕ) → v ≡ p → x ≡ o → o < 256 → (eqb v u && eqb x c) ≡ brings (source_at c) u (address p o)
brings_address p o v x u c at column small =
    ap₂ (λ y z. eqb y u && eqb z c) at column ∙ ap (λ b. eqb p u && b) (sym (column_object o c small))

pub brings_load : (p q k v x u c : ℕ) → v ≡ p → x ≡ 512 + 8 * q + k → q < 256 → k < 8
    → (eqb v u && eqb x c) ≡ brings (source_at c) u (load p q k)
brings_load p q k v x u c at column small slot =
    ap₂ (λ y z. eqb y u && eqb z c) at column ∙ ap (λ b. eqb p u && b) (sym (column_loaded q k c small slot))

pub row_put : (m m' : List ℕ) (v u c : ℕ) → v < 256 → Put 80 m m' v (256 + v) → c < 2560
    → bit_at 80 m' u c ≡ (bit_at 80 m u c || (eqb v u && same_source (row v) (source_at c)))
row_put m m' v u c hv put small =
    put_bit 80 m m' v (256 + v) u c put small ∙ ap (λ b. bit_at 80 m u c || (eqb v u && b)) (sym (column_row v c hv))

-- the rows of open variables below v are put
module _ (flags : List Bool) (v u c : ℕ) (old new : Bool) where
  abbrev told : ℕ → Bool
  told n = ltb u n && (get_or flags u false && same_source (row u) (source_at c))

  and_same : (b : Bool) (f : ℕ → Bool) → v ≡ u → (b && f v) ≡ (b && f u)
  and_same b f e = ap (λ x. b && f x) e

  pub rows_more : old ≡ told v → new ≡ (old || (get_or flags v false && (eqb v u && same_source (row v) (source_at c)))) → new ≡ told (v + 1)
  rows_more before step =
      elim (cases_eq v u) [
        | inl e ↦
            let none : ltb u v ≡ false = le-ltb u v (omega arith) in
            let now_in : ltb u (v + 1) ≡ true = lt-ltb u (v + 1) (omega arith) in
            step ∙ rw (before, none, now_in, eq-eqb v u e) (ap (λ x. get_or flags x false && same_source (row x) (source_at c)) e)
        | inr ne ↦ step ∙ rw (before, ne_eqb v u ne) (go (get_or flags v false) (cases_lt u v) ne)
      ]
    where
      go : (f : Bool) → (u < v) ⊎ (v ≤ u) → (v ≡ u → ⊥) → (told v || (f && false)) ≡ told (v + 1)
      go true (inl lt) ne = rw (lt-ltb u v lt, lt-ltb u (v + 1) (omega arith)) (sym (or_none _))
      go false (inl lt) ne = rw (lt-ltb u v lt, lt-ltb u (v + 1) (omega arith)) (sym (or_none _))
      go true (inr ge) ne = let lt : v < u = omega arith in rw (le-ltb u v ge, le-ltb u (v + 1) (omega arith))
      go false (inr ge) ne = let lt : v < u = omega arith in rw (le-ltb u v ge, le-ltb u (v + 1) (omega arith))

pub rows_none : (flags : List Bool) (u c : ℕ) → false ≡ (ltb u 0 && (get_or flags u false && same_source (row u) (source_at c)))
rows_none flags u c = rw (le-ltb u 0 (omega arith))

pub rows_all : (flags : List Bool) (u c n : ℕ) → u < n → (ltb u n && (get_or flags u false && same_source (row u) (source_at c))) ≡ (get_or flags u false && same_source (row u) (source_at c))
rows_all flags u c n h = rw (lt-ltb u n h)
