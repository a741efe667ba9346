-- Laws of tables: what a name's block is, and where.
use Rattle.std.proofs.Common.{◌≡◌, ℕ, suc, ◌+◌, ◌<◌, Bool, true, false, cond, eqb, List, [], ◌∷◌, sym, refl, ap, ◌∙◌, not-suc-le-zero, arith}
use Rattle.std.specs.Str.{bytes_eq}
use Rattle.std.proofs.lemmas.Slice.Eq.{bytes_eq-Decides}
use Rattle.std.proofs.lemmas.Bool.{cond-true, cond-false, cond_both, eqb-true, eq-eqb, ne_eqb, true≢false}
use Rattle.constraints.specs.Constraint.{length_of, length_from, variables}
use Rattle.units.specs.Words.{Cell}
use Rattle.declarations.specs.Declarations.{Entry, size_of}
use Rattle.books.specs.Tables.{first_of, without, distinct, blocks, Within, number}

pub same_bytes : (a b : List ℕ) → bytes_eq a b ≡ true → a ≡ b
same_bytes a b e = (bytes_eq-Decides a b).0 e

pub bytes_same : (a : List ℕ) → bytes_eq a a ≡ true
bytes_same a = (bytes_eq-Decides a a).1 refl

-- another name's block stays
pub size_without : (m n : List ℕ) (es : List Entry) → bytes_eq m n ≡ false → size_of (without m es) n ≡ size_of es n
size_without m n [] other = refl
size_without m n (e ∷ es) other =
    cond_both (bytes_eq e.name m) (without m es) (e ∷ without m es) (λ fs. size_of fs n ≡ size_of (e ∷ es) n)
    (λ same. size_without m n es other ∙ sym (cond-false (bytes_eq e.name n) (suc e.slots) (size_of es n) (rw (same_bytes e.name m same) other)))
    (λ _. ap (cond (bytes_eq e.name n) (suc e.slots)) (size_without m n es other))

-- each name keeps its first block
pub size_distinct : (es : List Entry) (n : List ℕ) → size_of (distinct es) n ≡ size_of es n
size_distinct [] n = refl
size_distinct (e ∷ es) n = go (bytes_eq e.name n) refl (size_distinct es n)
  where
    go : (b : Bool) → bytes_eq e.name n ≡ b → size_of (distinct es) n ≡ size_of es n
        → cond b (suc e.slots) (size_of (without e.name (distinct es)) n) ≡ cond b (suc e.slots) (size_of es n)
    go true same rest = refl
    go false other rest = size_without e.name n (distinct es) other ∙ rest

below_step : (b : Bool) (s first size vars k : ℕ) → (k < size → first + k < vars) → k < cond b (suc s) size → cond b 0 (suc s + first) + k < suc s + vars
below_step true s first size vars k ih lt = omega arith
below_step false s first size vars k ih lt = omega (arith, ih lt)

-- a cell's number is that of a variable
pub number_below : (es : List Entry) (c : Cell) → Within es c → number es c < variables (blocks es)
number_below [] c lt = absurd (not-suc-le-zero lt)
number_below (e ∷ es) c lt =
    below_step (bytes_eq e.name c.name) e.slots (first_of es c.name) (size_of es c.name) (variables (blocks es)) c.slot (number_below es c) lt

unique_step : (P : Type 0) (b d : Bool) (s f x g y k l : ℕ) → (b ≡ true → d ≡ true → P) → (k < x → l < y → f + k ≡ g + l → P × (k ≡ l))
    → k < cond b (suc s) x → l < cond d (suc s) y → cond b 0 (suc s + f) + k ≡ cond d 0 (suc s + g) + l → P × (k ≡ l)
unique_step P true true s f x g y k l both ih k_in l_in e = (both refl refl, omega arith)
unique_step P true false s f x g y k l both ih k_in l_in e = absurd (omega arith)
unique_step P false true s f x g y k l both ih k_in l_in e = absurd (omega arith)
unique_step P false false s f x g y k l both ih k_in l_in e = ih k_in l_in (omega arith)

-- cells with one number are one cell
pub number_unique : (es : List Entry) (c d : Cell) → Within es c → Within es d → number es c ≡ number es d → (c.name ≡ d.name) × (c.slot ≡ d.slot)
number_unique [] c d c_in d_in e = absurd (not-suc-le-zero c_in)
number_unique (h ∷ es) c d c_in d_in e =
    unique_step (c.name ≡ d.name) (bytes_eq h.name c.name) (bytes_eq h.name d.name) h.slots (first_of es c.name) (size_of es c.name)
    (first_of es d.name) (size_of es d.name) c.slot d.slot
    (λ p q. sym (same_bytes h.name c.name p) ∙ same_bytes h.name d.name q) (number_unique es c d) c_in d_in e

-- no block starts below the first one
none_before : (s o : ℕ) (bs : List ℕ) → o < s → length_from s bs o ≡ 0
none_before s o [] lt = refl
none_before s o (n ∷ bs) lt =
    cond-false (eqb o s) n (length_from (s + n) bs o) (ne_eqb o s (λ e. omega arith)) ∙ none_before (s + n) o bs (omega arith)

length_step : (b : Bool) (s n f x k o : ℕ) (bs : List ℕ) → k < cond b (suc n) x → o ≡ s + (cond b 0 (suc n + f) + k)
    → (k < x → o ≡ s + suc n + (f + k) → length_from (s + suc n) bs o ≡ cond (eqb k 0) x 0)
    → cond (eqb o s) (suc n) (length_from (s + suc n) bs o) ≡ cond (eqb k 0) (cond b (suc n) x) 0
length_step true s n f x k o bs lt e ih =
    cond_both (eqb k 0) (suc n) 0 (λ m. cond (eqb o s) (suc n) (length_from (s + suc n) bs o) ≡ m)
    (λ z. cond-true (eqb o s) (suc n) _ (eq-eqb o s (omega (arith, eqb-true k 0 z))))
    (λ z. cond-false (eqb o s) (suc n) _ (ne_eqb o s (λ same. absurd (true≢false (sym (eq-eqb k 0 (omega arith)) ∙ z)))) ∙ none_before (s + suc n) o bs (omega arith))
length_step false s n f x k o bs lt e ih = cond-false (eqb o s) (suc n) _ (ne_eqb o s (λ same. omega arith)) ∙ ih lt (omega arith)

length_at_from : (s o : ℕ) (es : List Entry) (c : Cell) → Within es c → o ≡ s + number es c
    → length_from s (blocks es) o ≡ cond (eqb c.slot 0) (size_of es c.name) 0
length_at_from s o [] c lt e = absurd (not-suc-le-zero lt)
length_at_from s o (h ∷ es) c lt e =
    length_step (bytes_eq h.name c.name) s h.slots (first_of es c.name) (size_of es c.name) c.slot o (blocks es) lt e
    (λ l q. length_at_from (s + suc h.slots) o es c l q)

-- a block starts at a name's own cell, and at no other of its cells
pub length_at : (es : List Entry) (c : Cell) → Within es c → length_of (blocks es) (number es c) ≡ cond (eqb c.slot 0) (size_of es c.name) 0
unfolding length_of
length_at es c lt = length_at_from 0 (number es c) es c lt (omega arith)
