-- Decoding and encoding undo each other.
use Rattle.std.proofs.Common.{◌≡◌, ℕ, zero, suc, ◌+◌, ◌*◌, ◌/◌, ◌%◌, ◌^◌, ◌<◌, Bool, true, false, cond, ◌&&◌, eqb, ltb, is_some, Some, None, Option, sym, refl, ap, ◌∙◌, subst, arith}
use Rattle.std.specs.Option.{option_eq}
use Rattle.std.proofs.lemmas.Bool.{eqb-true, eq-eqb, lt-ltb, ltb-true, and_parts, false≢true}
use Rattle.constraints.specs.Constraint.{Constraint, address, copy, load, store, of_kind, kind, left, offset, right, decode}
use Rattle.constraints.specs.Encoding.{word_of, written, encode, PlainWord}

-- a word whose fields fit their bits
pub written_some : (n p k q : ℕ) → p < 4096 → q < 4096 → k < 8 → Some (word_of n p k q) ≡ written n p k q
unfolding written
written_some n p k q l r small = rw (lt-ltb p 4096 l, lt-ltb q 4096 r, lt-ltb k 8 small) refl

fitting : (p q k : ℕ) → ltb p 4096 && ltb q 4096 && ltb k 8 ≡ true → (p < 4096) × (q < 4096) × (k < 8)
fitting p q k e =
    let outer = and_parts (ltb p 4096 && ltb q 4096) (ltb k 8) e in
    let inner = and_parts (ltb p 4096) (ltb q 4096) outer.0 in
    (ltb-true p 4096 inner.0, ltb-true q 4096 inner.1, ltb-true k 8 outer.1)

some_same : {a b : ℕ} → Some a ≡ Some b → a ≡ b
some_same e = cc

none_some : {b : ℕ} → ◌≡◌ {A = Option ℕ} None (Some b) → ⊥
none_some e = false≢true (ap is_some e)

-- no word where a field does not fit
pub written_none : (n p k q : ℕ) → ((p < 4096) × (q < 4096) × (k < 8) → ⊥) → None ≡ written n p k q
unfolding written
written_none n p k q unfit = go (ltb p 4096 && ltb q 4096 && ltb k 8) refl
  where
    go : (b : Bool) → ltb p 4096 && ltb q 4096 && ltb k 8 ≡ b → None ≡ cond b (Some (word_of n p k q)) None
    go false e = refl
    go true e = absurd (unfit (fitting p q k e))

-- a word's fields, from the top
top_of : (n p k q : ℕ) → p < 4096 → q < 4096 → k < 8 → word_of n p k q / 0x4000_0000 ≡ n
top_of n p k q l r small = omega arith

offset_to : (n p k q : ℕ) → p < 4096 → q < 4096 → word_of n p k q / 0x0800_0000 ≡ n * 8 + k
offset_to n p k q l r = omega arith

left_to : (n p k q : ℕ) → q < 4096 → word_of n p k q / 4096 ≡ (n * 0x0004_0000 + k * 0x8000) + p
left_to n p k q r = omega arith

pub decode_word_of : (n p k q : ℕ) → n < 4 → p < 4096 → q < 4096 → k < 8 → decode (word_of n p k q) ≡ of_kind n p k q
unfolding decode
decode_word_of n p k q few l r small =
    let w = word_of n p k q in
    let a : kind w ≡ n = rw (top_of n p k q l r small) (omega arith) in
    let b : left w ≡ p = rw (left_to n p k q r) (omega arith) in
    let c : offset w ≡ k = rw (offset_to n p k q l r) (omega arith) in
    let d : right w ≡ q = omega arith in
    rw (a, b, c, d) refl

pub written_decodes : (n p k q : ℕ) → n < 4 → (w : ℕ) → written n p k q ≡ Some w → decode w ≡ of_kind n p k q
unfolding written
written_decodes n p k q few w = go (ltb p 4096 && ltb q 4096 && ltb k 8) refl
  where
    go : (b : Bool) → ltb p 4096 && ltb q 4096 && ltb k 8 ≡ b → cond b (Some (word_of n p k q)) None ≡ Some w → decode w ≡ of_kind n p k q
    go false t e = absurd (none_some e)
    go true t e =
        let (l, r, small) = fitting p q k t in
        subst (λ x. decode x ≡ of_kind n p k q) (some_same e) (decode_word_of n p k q few l r small)

-- a written word stands for its constraint
pub encode_back : (c : Constraint) (w : ℕ) → encode c ≡ Some w → decode w ≡ c
encode_back (address p o) w e = written_decodes 0 p 0 o (omega arith) w e
encode_back (copy p q) w e = written_decodes 1 p 0 q (omega arith) w e
encode_back (load p q k) w e = written_decodes 2 p k q (omega arith) w e
encode_back (store p k q) w e = written_decodes 3 p k q (omega arith) w e

assembled : (w a b c n k p q : ℕ) → w ≡ 4096 * a + q → a ≡ 4096 * b + p → b ≡ 8 * c → c ≡ 8 * n + k → word_of n p k q ≡ w
assembled w a b c n k p q e f g h = omega arith

offset_from : (w n k : ℕ) → w < 2 ^ 32 → kind w ≡ n → offset w ≡ k → w / 0x0800_0000 ≡ 8 * n + k
offset_from w n k bits kind_is offset_is = omega arith

quarters : (w : ℕ) → w / 0x0100_0000 % 8 ≡ 0 → w / 0x0100_0000 ≡ 8 * (w / 0x0800_0000)
quarters w zeros = omega arith

lowers : (w : ℕ) → w / 4096 ≡ 4096 * (w / 0x0100_0000) + left w
lowers w = omega arith

-- the word is the one that its fields give
pub rebuilt : (w n k : ℕ) → PlainWord w → kind w ≡ n → offset w ≡ k → written n (left w) k (right w) ≡ Some w
rebuilt w n k plain kind_is offset_is =
    let same : word_of n (left w) k (right w) ≡ w =
    assembled w (w / 4096) (w / 0x0100_0000) (w / 0x0800_0000) n k (left w) (right w) (omega arith) (lowers w)
    (quarters w plain.zero_bits) (offset_from w n k plain.word_bits kind_is offset_is) in
    sym (written_some n (left w) k (right w) (omega arith) (omega arith) (omega arith)) ∙ ap Some same

pub decode_kind : (w n : ℕ) → kind w ≡ n → of_kind n (left w) (offset w) (right w) ≡ decode w
unfolding decode
decode_kind w n e = rw (← e) refl

pub decode_back : (w : ℕ) → PlainWord w → encode (decode w) ≡ Some w
unfolding decode
decode_back w plain = go (kind w) refl
  where
    go : (n : ℕ) → kind w ≡ n → encode (of_kind n (left w) (offset w) (right w)) ≡ Some w
    go zero e = rebuilt w 0 0 plain e (plain.no_offset (omega arith))
    go (suc zero) e = rebuilt w 1 0 plain e (plain.no_offset (omega arith))
    go (suc (suc zero)) e = rebuilt w 2 (offset w) plain e refl
    go (suc (suc (suc n))) e = rebuilt w 3 (offset w) plain (omega arith) refl

pub same_word : (r : Option ℕ) (w : ℕ) → option_eq eqb r (Some w) ≡ true → r ≡ Some w
same_word None w e = absurd (false≢true e)
same_word (Some x) w e = ap Some (eqb-true x w e)

pub word_same : (r : Option ℕ) (w : ℕ) → r ≡ Some w → option_eq eqb r (Some w) ≡ true
word_same r w e = rw e (eq-eqb w w refl)

-- a word that its constraint is written as
written_is : (n p k q w : ℕ) → written n p k q ≡ Some w → (word_of n p k q ≡ w) × (p < 4096) × (q < 4096) × (k < 8)
unfolding written
written_is n p k q w = go (ltb p 4096 && ltb q 4096 && ltb k 8) refl
  where
    go : (b : Bool) → ltb p 4096 && ltb q 4096 && ltb k 8 ≡ b → cond b (Some (word_of n p k q)) None ≡ Some w
        → (word_of n p k q ≡ w) × (p < 4096) × (q < 4096) × (k < 8)
    go false t e = absurd (none_some e)
    go true t e = let (l, r, small) = fitting p q k t in (some_same e, l, r, small)

zeros_of : (n p k q w : ℕ) → written n p k q ≡ Some w → w / 0x0100_0000 % 8 ≡ 0
zeros_of n p k q w e =
    let (is, p_in, q_in, k_in) = written_is n p k q w e in
    let upper : w / 4096 ≡ (n * 0x0004_0000 + k * 0x8000) + p = omega (arith, is, left_to n p k q q_in) in
    omega arith

offset_of : (n p k q w : ℕ) → n < 4 → written n p k q ≡ Some w → offset w ≡ k
offset_of n p k q w few e =
    let (is, p_in, q_in, k_in) = written_is n p k q w e in
    let upper : w / 0x0800_0000 ≡ n * 8 + k = ap (λ x. x / 0x0800_0000) (sym is) ∙ offset_to n p k q p_in q_in in
    omega arith

pub plain_if : (w : ℕ) → w < 2 ^ 32 → encode (decode w) ≡ Some w → PlainWord w
unfolding decode
plain_if w bits = go (kind w) refl
  where
    go : (n : ℕ) → kind w ≡ n → encode (of_kind n (left w) (offset w) (right w)) ≡ Some w → PlainWord w
    go zero e f = record { word_bits = bits; zero_bits = zeros_of 0 _ _ _ w f; no_offset = λ h. offset_of 0 _ _ _ w (omega arith) f }
    go (suc zero) e f = record { word_bits = bits; zero_bits = zeros_of 1 _ _ _ w f; no_offset = λ h. offset_of 1 _ _ _ w (omega arith) f }
    go (suc (suc zero)) e f = record { word_bits = bits; zero_bits = zeros_of 2 _ _ _ w f; no_offset = λ h. absurd (omega arith) }
    go (suc (suc (suc n))) e f = record { word_bits = bits; zero_bits = zeros_of 3 _ _ _ w f; no_offset = λ h. absurd (omega arith) }
