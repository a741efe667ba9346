-- Rows of 2,816 columns, and what a row comes to.
use Rattle.std.proofs.Common.{◌≡◌, ℕ, ◌+◌, ◌*◌, ◌/◌, ◌^◌, ◌<◌, ◌≤◌, Bool, true, false, cond, ◌||◌, eqb, ltb, List, Option, Some, None, Decides, length, get_or, take, sym, refl, ap, ◌∙◌, inl, inr, arith}
use Rattle.std.proofs.lemmas.List.{length-take-le, get_or-take, ext_get_or}
use Rattle.std.proofs.lemmas.Bool.{cases_lt, cases_eq, cases_order, eq-eqb, ne_eqb, and_parts, lt-ltb, le-ltb, ltb-true}
use Rattle.std.proofs.lemmas.Slice.Eq.{bytes_eq-Decides}
use Rattle.graphs.specs.Keys.{SameRows}
use Rattle.graphs.specs.Matrix.{bit_at, row_at, Put}
use Rattle.flows.proofs.Putting.{put_bit}
use Rattle.graphs.proofs.Rows.{row_length, row_word, row_bits, row_ext}
use Rattle.flows.proofs.Opening.{or_none, any_more, any_zero}
use Rattle.flows.proofs.Opening.{or_assoc}
use Rattle.constraints.specs.Finite.{any}
use Rattle.std.specs.Str.{bytes_eq}
use Rattle.constraints.specs.declared.constraint.Constraint.{Constraint}
use Rattle.constraints.specs.declared.constraint.Constraint.TheVariants.{Address as address, Copy as copy, Load as load, Store as store}
use Rattle.constraints.specs.Constraint.{decode, left_of}
use Rattle.flows.specs.Names.{NamesBelow}
use Rattle.hvn.specs.Columns.{column_number, in_row, SameRow, NoneFrom, NextColumn, Settled, lone, crowd, brought, member, copied, element_number, SmallNumbers}

pub row_in : (rows : List ℕ) (k c : ℕ) → c < 2816 → in_row rows k c ≡ bit_at 88 rows k c
row_in rows k c h = rw (lt-ltb c 2816 h)

pub row_out : (rows : List ℕ) (k c : ℕ) → 2816 ≤ c → in_row rows k c ≡ false
row_out rows k c h = rw (le-ltb c 2816 h)

pub in_parts : (rows : List ℕ) (k c : ℕ) → in_row rows k c ≡ true → (c < 2816) × (bit_at 88 rows k c ≡ true)
in_parts rows k c e = let both = and_parts (ltb c 2816) (bit_at 88 rows k c) e in (ltb-true c 2816 both.0, both.1)

pub same_row : (rows rows' : List ℕ) (i j : ℕ) → ((c : ℕ) → c < 2816 → bit_at 88 rows i c ≡ bit_at 88 rows' j c) → (c : ℕ) → in_row rows i c ≡ in_row rows' j c
same_row rows rows' i j same c =
    elim (cases_lt c 2816) [
      | inl lt ↦ row_in rows i c lt ∙ same c lt ∙ sym (row_in rows' j c lt)
      | inr ge ↦ row_out rows i c ge ∙ sym (row_out rows' j c ge)
    ]

module _ (rows : List ℕ) (k : ℕ) where
  pub settled_lone : (c : ℕ) → NextColumn rows k 0 c → NoneFrom rows k (c + 1) 2816 → Settled (in_row rows) k (c + 1)
  settled_lone c next none =
      lone c (row_in rows k c next.inside ∙ next.set)
      (λ d e.
      let (h, on) = in_parts rows k d e in
      elim (cases_order d c) [
        | inl same ↦ same
        | inr (inl lt) ↦ absurd (next.none d (omega arith) lt on)
        | inr (inr gt) ↦ absurd (none d (omega arith) h on)
      ]) refl

  pub settled_crowd : (c d f : ℕ) → NextColumn rows k 0 c → NextColumn rows k (c + 1) d → f ≤ k → SameRow (in_row rows) f k
      → ((j : ℕ) → j < f → SameRow (in_row rows) j k → ⊥) → Settled (in_row rows) k (2561 + f)
  settled_crowd c d f one two le same least =
      crowd c d (row_in rows k c one.inside ∙ one.set) (row_in rows k d two.inside ∙ two.set) (λ e. omega (arith, two.from)) f le same least refl

module _ (rows : List ℕ) (k : ℕ) (long : 88 * k + 88 ≤ length rows) where
  -- rows up to k are those of the whole matrix
  row_take : (a : ℕ) → a < k + 1 → row_at 88 (take (88 * k + 88) rows) a ≡ row_at 88 rows a
  row_take a ha =
      let cut = take (88 * k + 88) rows in
      let lc : length cut ≡ 88 * k + 88 = length-take-le (88 * k + 88) rows long in
      let la = row_length 88 cut a (omega arith) in
      ext_get_or 0 (row_at 88 cut a) (row_at 88 rows a) (la ∙ sym (row_length 88 rows a (omega arith)))
      (λ p hp.
      let hp88 : p < 88 = omega arith in
      row_word 88 cut a a a p hp88 ∙ get_or-take (88 * k + 88) rows (88 * a + p) 0 (omega arith) ∙ sym (row_word 88 rows a a a p hp88))

  pub first_small : (first : List ℕ) → SameRows 88 (take (88 * k + 88) rows) first → get_or first k 0 ≤ k
  first_small first same =
      let lc : length (take (88 * k + 88) rows) ≡ 88 * k + 88 = length-take-le (88 * k + 88) rows long in
      let is = same k (omega arith) in
      elim (cases_lt k (get_or first k 0)) [ inl lt ↦ absurd (is.least k lt ((bytes_eq-Decides (row_at 88 (take (88 * k + 88) rows) k) (row_at 88 (take (88 * k + 88) rows) k)).1 refl)) | inr le ↦ le ]

  module _ (typed : (a : ℕ) → get_or rows a 0 < 2 ^ 32) (first : List ℕ) (same : SameRows 88 (take (88 * k + 88) rows) first) where
    cut : List ℕ
    cut = take (88 * k + 88) rows

    decides : (a : ℕ) → Decides (bytes_eq (row_at 88 (take (88 * k + 88) rows) a) (row_at 88 (take (88 * k + 88) rows) k))
        (row_at 88 (take (88 * k + 88) rows) a ≡ row_at 88 (take (88 * k + 88) rows) k)
    decides a = bytes_eq-Decides (row_at 88 (take (88 * k + 88) rows) a) (row_at 88 (take (88 * k + 88) rows) k)

    in_cut : k < length (take (88 * k + 88) rows) / 88
    in_cut = omega (arith, length-take-le (88 * k + 88) rows long)

    pub first_same : SameRow (in_row rows) (get_or first k 0) k
    first_same =
        let f = get_or first k 0 in
        let le = first_small first same in
        same_row rows rows f k
        (row_bits 88 rows f k (sym (row_take f (omega arith)) ∙ (decides f).0 (same k in_cut).alike ∙ row_take k (omega arith)))

    pub first_least : (j : ℕ) → j < get_or first k 0 → SameRow (in_row rows) j k → ⊥
    first_least j lt q =
        let le = first_small first same in
        (same k in_cut).least j lt ((decides j).1
        (row_take j (omega arith)
        ∙ row_ext 88 rows j k typed (omega arith) long (λ c h. sym (row_in rows j c h) ∙ q c ∙ row_in rows k c h)
        ∙ sym (row_take k (omega arith))))

-- ---- what words bring, word by word

-- the columns of row k with one more set, and with none
pub column_put : (m m' : List ℕ) (k x c : ℕ) → Put 88 m m' k x → c < 2816 → bit_at 88 m' k c ≡ (bit_at 88 m k c || eqb (x + 1) (c + 1))
column_put m m' k x c put small =
    put_bit 88 m m' k x k c put small ∙ ap (λ b. bit_at 88 m k c || b) (rw (eq-eqb k k refl)
    (elim (cases_eq x c) [
      | inl e ↦ rw (eq-eqb x c e, eq-eqb (x + 1) (c + 1) (omega arith))
      | inr ne ↦ rw (ne_eqb x c ne, ne_eqb (x + 1) (c + 1) (λ e. omega arith))
    ]))

-- a constraint with another left variable brings nothing
pub no_member : (reach number : List ℕ) (v : ℕ) (c : Constraint) → member reach v (left_of c) ≡ false → element_number reach number v c ≡ 0
no_member reach number v (address p o) out = ap (λ b. cond b (1 + o) 0) out
no_member reach number v (copy p q) out = ap (λ b. cond b (copied reach number v q) 0) out
no_member reach number v (load p q k) out = ap (λ b. cond b (513 + 8 * q + k) 0) out
no_member reach number v (store p k q) out = refl

cond_below : (b : Bool) (x y n : ℕ) → x < n → y < n → cond b x y < n
cond_below true x y n hx hy = hx
cond_below false x y n hx hy = hy

pub element_small : (reach number : List ℕ) (v : ℕ) (c : Constraint) → NamesBelow 256 c → SmallNumbers number → element_number reach number v c < 2817
element_small reach number v (address p o) h small = cond_below (member reach v p) (1 + o) 0 2817 (omega (arith, h.1)) (omega arith)
element_small reach number v (copy p q) h small =
    cond_below (member reach v p) (copied reach number v q) 0 2817
    (cond_below (member reach v q) 0 (get_or number q 0) 2817 (omega arith) (small q)) (omega arith)
element_small reach number v (load p q k) h small = cond_below (member reach v p) (513 + 8 * q + k) 0 2817 (omega (arith, h.1, h.2)) (omega arith)
element_small reach number v (store p k q) h small = omega arith

pub no_column : (r : Option ℕ) → ((c : ℕ) → r ≡ Some c → ⊥) → 0 ≡ column_number r
no_column None other = refl
no_column (Some c) other = absurd (other c refl)

pub column_none : (c : ℕ) (old : Bool) → old ≡ (old || eqb 0 (c + 1))
column_none c old = rw (ne_eqb 0 (c + 1) (λ e. omega arith)) (or_none old)

pub brought_none : (words reach number : List ℕ) (v c : ℕ) (old : Bool) → old ≡ (old || brought words reach number v 0 c)
brought_none words reach number v c old =
    or_none old ∙ ap (λ b. old || b) (any_zero (λ j. eqb (element_number reach number v (decode (get_or words j 0))) (c + 1)))

pub brought_more : (words reach number : List ℕ) (v i c x : ℕ) (old so_far new : Bool) → so_far ≡ (old || brought words reach number v i c)
    → new ≡ (so_far || eqb x (c + 1)) → x ≡ element_number reach number v (decode (get_or words i 0)) → new ≡ (old || brought words reach number v (i + 1) c)
brought_more words reach number v i c x old so_far new before step is =
    let f : ℕ → Bool = λ j. eqb (element_number reach number v (decode (get_or words j 0))) (c + 1) in
    step ∙ ap (λ y. so_far || eqb y (c + 1)) is ∙ ap (λ b. b || f i) before ∙ or_assoc old (any i f) (f i) ∙ ap (λ b. old || b) (sym (any_more i f))
