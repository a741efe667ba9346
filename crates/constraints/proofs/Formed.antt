-- Words stay formed as blocks are appended; the computed test says what a word must be.
use Rattle.std.proofs.Common.{◌≡◌, ℕ, zero, suc, ◌+◌, ◌/◌, ◌%◌, ◌^◌, ◌<◌, Bool, true, false, cond, ◌&&◌, eqb, ltb, List, [], ◌∷◌, ◌++◌, length, get_or, replicate, sym, refl, ap, ◌∙◌, arith}
use Rattle.std.proofs.lemmas.Bool.{and_parts, and_from, eqb-true, ltb-true, lt-ltb, eq-eqb, ne_eqb, cond-true, cond-false, false_from_ne_true, false≢true}
use Rattle.constraints.specs.Constraint.{of_kind, kind, left, offset, right, decode, variables, length_from, length_of, WellFormed}
use Rattle.constraints.specs.Encoding.{PlainWord}
use Rattle.constraints.specs.Words.{kind_rule, names, is_word}
use Rattle.constraints.proofs.Least.{block_below}

pub variables_push : (bs : List ℕ) (n : ℕ) → variables (bs ++ n ∷ []) ≡ variables bs + n
variables_push [] n = omega arith
variables_push (b ∷ bs) n = omega (arith, variables_push bs n)

from_push_other : (start : ℕ) (bs : List ℕ) (n o : ℕ) → (o ≡ start + variables bs → ⊥) → length_from start (bs ++ n ∷ []) o ≡ length_from start bs o
from_push_other start [] n o apart = cond-false (eqb o start) n 0 (ne_eqb o start (λ e. apart (omega (arith, e))))
from_push_other start (b ∷ bs) n o apart =
    ap (λ x. cond (eqb o start) b x) (from_push_other (start + b) bs n o (λ e. apart (omega (arith, e))))

from_push_end : (start : ℕ) (bs : List ℕ) (n o : ℕ) → ((i : ℕ) → i < length bs → 0 < get_or bs i 0) → o ≡ start + variables bs
    → length_from start (bs ++ n ∷ []) o ≡ n
from_push_end start [] n o positive e = cond-true (eqb o start) n 0 (eq-eqb o start (omega arith))
from_push_end start (b ∷ bs) n o positive e =
    let some : 0 < b = positive 0 (omega arith) in
    cond-false (eqb o start) b _ (ne_eqb o start (λ same. omega arith))
    ∙ from_push_end (start + b) bs n o (λ i h. positive (suc i) (omega arith)) (omega arith)

-- a further block begins after the last variable, and changes no other
pub length_of_other : (bs : List ℕ) (n o : ℕ) → (o ≡ variables bs → ⊥) → length_of (bs ++ n ∷ []) o ≡ length_of bs o
unfolding length_of
length_of_other bs n o apart = from_push_other 0 bs n o (λ e. apart (omega (arith, e)))

pub length_of_end : (bs : List ℕ) (n : ℕ) → ((i : ℕ) → i < length bs → 0 < get_or bs i 0) → length_of (bs ++ n ∷ []) (variables bs) ≡ n
unfolding length_of
length_of_end bs n positive = from_push_end 0 bs n (variables bs) positive (omega arith)

length_of_push : (bs : List ℕ) (n q : ℕ) → 0 < length_of bs q → length_of (bs ++ n ∷ []) q ≡ length_of bs q
length_of_push bs n q h = length_of_other bs n q (λ e. omega (arith, e, block_below bs q 0 h))

rule_push : (bs : List ℕ) (n kind k q : ℕ) → kind_rule bs kind k q ≡ true → kind_rule (bs ++ n ∷ []) kind k q ≡ true
rule_push bs n zero k q e =
    let parts = and_parts (eqb k 0) (ltb 0 (length_of bs q)) e in
    let some : 0 < length_of bs q = ltb-true 0 (length_of bs q) parts.1 in
    rw (length_of_push bs n q some) e
rule_push bs n (suc zero) k q e = e
rule_push bs n (suc (suc kind)) k q e = refl

-- the parts of the test
pub record Parts (bs : List ℕ) (w : ℕ) : Type 0 where
  pub word_bits : w < 2 ^ 32
  pub left_in : left w < variables bs
  pub right_in : right w < variables bs
  pub zero_bits : w / 0x0100_0000 % 8 ≡ 0
  pub ruled : kind_rule bs (kind w) (offset w) (right w) ≡ true

pub parts_of : (bs : List ℕ) (w : ℕ) → is_word bs w ≡ true → Parts bs w
unfolding is_word
parts_of bs w e =
    let z = and_parts (ltb w (2 ^ 32)) _ e in
    let a = and_parts (ltb (left w) (variables bs)) _ z.1 in
    let b = and_parts (ltb (right w) (variables bs)) _ a.1 in
    let c = and_parts (eqb (w / 0x0100_0000 % 8) 0) (kind_rule bs (kind w) (offset w) (right w)) b.1 in
    record {
      word_bits = ltb-true _ _ z.0;
      left_in = ltb-true _ _ a.0;
      right_in = ltb-true _ _ b.0;
      zero_bits = eqb-true _ _ c.0;
      ruled = c.1;
    }

pub from_parts : (bs : List ℕ) (w : ℕ) → Parts bs w → is_word bs w ≡ true
unfolding is_word
from_parts bs w p =
    and_from _ _ (lt-ltb w (2 ^ 32) p.word_bits)
    (and_from _ _ (lt-ltb _ _ p.left_in)
    (and_from _ _ (lt-ltb _ _ p.right_in) (and_from _ _ (eq-eqb _ _ p.zero_bits) p.ruled)))

pub word_push : (bs : List ℕ) (n w : ℕ) → is_word bs w ≡ true → is_word (bs ++ n ∷ []) w ≡ true
word_push bs n w e =
    let p = parts_of bs w e in
    let more = variables_push bs n in
    from_parts (bs ++ n ∷ []) w (record {
      word_bits = p.word_bits;
      left_in = omega arith;
      right_in = omega arith;
      zero_bits = p.zero_bits;
      ruled = rule_push bs n (kind w) (offset w) (right w) p.ruled;
    })

pub rule_offset : (bs : List ℕ) (kind k q : ℕ) → kind_rule bs kind k q ≡ true → kind < 2 → k ≡ 0
rule_offset bs zero k q e h = eqb-true k 0 (and_parts (eqb k 0) (ltb 0 (length_of bs q)) e).0
rule_offset bs (suc zero) k q e h = eqb-true k 0 e
rule_offset bs (suc (suc kind)) k q e h = absurd (omega arith)

pub rule_object : (bs : List ℕ) (kind k q : ℕ) → kind_rule bs kind k q ≡ true → kind ≡ 0 → 0 < length_of bs q
rule_object bs zero k q e h = ltb-true 0 (length_of bs q) (and_parts (eqb k 0) (ltb 0 (length_of bs q)) e).1
rule_object bs (suc kind) k q e h = absurd (omega arith)

pub word_formed : (bs : List ℕ) (w : ℕ) → is_word bs w ≡ true → WellFormed bs w
word_formed bs w e =
    let p = parts_of bs w e in
    record {
      left_in = p.left_in;
      right_in = p.right_in;
      word_bits = p.word_bits;
      zero_bits = p.zero_bits;
      no_offset = rule_offset bs (kind w) (offset w) (right w) p.ruled;
      object_right = rule_object bs (kind w) (offset w) (right w) p.ruled;
    }

pub ruled_if : (bs : List ℕ) (kind k q : ℕ) → (kind < 2 → k ≡ 0) → (kind ≡ 0 → 0 < length_of bs q) → kind_rule bs kind k q ≡ true
ruled_if bs zero k q a b = and_from (eqb k 0) (ltb 0 (length_of bs q)) (eq-eqb k 0 (a (omega arith))) (lt-ltb 0 _ (b refl))
ruled_if bs (suc zero) k q a b = eq-eqb k 0 (a (omega arith))
ruled_if bs (suc (suc kind)) k q a b = refl

pub formed_word : (bs : List ℕ) (w : ℕ) → WellFormed bs w → is_word bs w ≡ true
formed_word bs w f =
    from_parts bs w (record {
      word_bits = f.word_bits;
      left_in = f.left_in;
      right_in = f.right_in;
      zero_bits = f.zero_bits;
      ruled = ruled_if bs (kind w) (offset w) (right w) f.no_offset f.object_right;
    })

-- what one part refuses
pub not_word : (bs : List ℕ) (w : ℕ) → (Parts bs w → ⊥) → false ≡ is_word bs w
not_word bs w no_parts = sym (false_from_ne_true (is_word bs w) (λ e. no_parts (parts_of bs w e)))

zeros : (n o z : ℕ) → get_or (replicate n z) o z ≡ z
zeros zero o z = refl
zeros (suc n) zero z = refl
zeros (suc n) (suc o) z = zeros n o z

-- a table of zeros tells of no block
pub none_told : (n o : ℕ) → get_or {A = ℕ} (replicate n 0) o 0 ≡ length_of [] o
unfolding length_of
none_told n o = zeros n o 0

bool_same : (a b : Bool) → (a ≡ true → b ≡ true) → (b ≡ true → a ≡ true) → a ≡ b
bool_same true b to from = sym (to refl)
bool_same false b to from = sym (false_from_ne_true b (λ e. false≢true (from e)))

module _ (bs : List ℕ) (w : ℕ) (plain : PlainWord w) where
  no_object : (0 < kind w) → ltb (left w) (variables bs) && ltb (right w) (variables bs) ≡ is_word bs w
  no_object other =
      bool_same _ _ (λ t.
      let sides = and_parts (ltb (left w) (variables bs)) (ltb (right w) (variables bs)) t in
      from_parts bs w (record {
        word_bits = plain.word_bits;
        left_in = ltb-true _ _ sides.0;
        right_in = ltb-true _ _ sides.1;
        zero_bits = plain.zero_bits;
        ruled = ruled_if bs (kind w) (offset w) (right w) plain.no_offset (λ h. absurd (omega arith));
      }))
      (λ t. let p = parts_of bs w t in and_from _ _ (lt-ltb _ _ p.left_in) (lt-ltb _ _ p.right_in))

  an_object : kind w ≡ 0 → ltb (left w) (variables bs) && ltb 0 (length_of bs (right w)) ≡ is_word bs w
  an_object first =
      bool_same _ _ (λ t.
      let sides = and_parts (ltb (left w) (variables bs)) (ltb 0 (length_of bs (right w))) t in
      let some : 0 < length_of bs (right w) = ltb-true _ _ sides.1 in
      from_parts bs w (record {
        word_bits = plain.word_bits;
        left_in = ltb-true _ _ sides.0;
        right_in = omega (arith, block_below bs (right w) 0 some);
        zero_bits = plain.zero_bits;
        ruled = ruled_if bs (kind w) (offset w) (right w) plain.no_offset (λ h. some);
      }))
      (λ t.
      let p = parts_of bs w t in
      and_from _ _ (lt-ltb _ _ p.left_in) (lt-ltb _ _ (rule_object bs (kind w) (offset w) (right w) p.ruled first)))

  pub names_word : names bs (decode w) ≡ is_word bs w
  unfolding decode
  names_word = go (kind w) refl
    where
      go : (n : ℕ) → kind w ≡ n → names bs (of_kind n (left w) (offset w) (right w)) ≡ is_word bs w
      go zero e = an_object e
      go (suc zero) e = no_object (omega arith)
      go (suc (suc zero)) e = no_object (omega arith)
      go (suc (suc (suc n))) e = no_object (omega arith)

pub plain_parts : (bs : List ℕ) (w : ℕ) → Parts bs w → PlainWord w
plain_parts bs w p =
    record { word_bits = p.word_bits; zero_bits = p.zero_bits; no_offset = rule_offset bs (kind w) (offset w) (right w) p.ruled }
