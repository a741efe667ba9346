-- A system by names is valid.
use Rattle.std.proofs.Common.{◌≡◌, ℕ, zero, suc, ◌+◌, ◌*◌, ◌/◌, ◌%◌, ◌^◌, ◌<◌, ◌≤◌, eqb, List, [], ◌∷◌, length, get_or, sym, ap, ◌∙◌, not-suc-le-zero, arith}
use Rattle.std.specs.List.{AllByRecursion}
use Rattle.std.proofs.lemmas.List.{length-map}
use Rattle.std.proofs.lemmas.Bool.{cond-true, eq-eqb}
use Rattle.constraints.specs.Constraint.{kind, offset, left, right, variables, length_of, WellFormed, Valid}
use Rattle.constraints.specs.Encoding.{word_of}
use Rattle.units.specs.Words.{Cell, Named, word}
use Rattle.declarations.specs.Declarations.{Entry, size_of}
use Rattle.books.specs.Tables.{first_of, blocks, Within, number, system}
use Rattle.books.specs.Counts.{Short}
use Rattle.books.proofs.Members.{at_map}
use Rattle.books.proofs.Tables.{number_below, length_at}
use Rattle.books.proofs.Embedding.{Lawful, Program}

-- the fields of a word
kind_word : (n p k q : ℕ) → n < 4 → k < 8 → p < 4096 → q < 4096 → kind (word_of n p k q) ≡ n
kind_word n p k q n_in k_in p_in q_in = omega arith

high_word : (n p k q : ℕ) → p < 4096 → q < 4096 → word_of n p k q / 0x0800_0000 ≡ n * 8 + k
high_word n p k q p_in q_in = omega arith

low_offset : (n k : ℕ) → k < 8 → (n * 8 + k) % 8 ≡ k
low_offset n k k_in = omega arith

offset_word : (n p k q : ℕ) → k < 8 → p < 4096 → q < 4096 → offset (word_of n p k q) ≡ k
offset_word n p k q k_in p_in q_in = ap (λ m. m % 8) (high_word n p k q p_in q_in) ∙ low_offset n k k_in

left_word : (n p k q : ℕ) → p < 4096 → q < 4096 → left (word_of n p k q) ≡ p
left_word n p k q p_in q_in = omega arith

right_word : (n p k q : ℕ) → q < 4096 → right (word_of n p k q) ≡ q
right_word n p k q q_in = omega arith

word_small : (n p k q : ℕ) → n < 4 → k < 8 → p < 4096 → q < 4096 → word_of n p k q < 2 ^ 32
word_small n p k q n_in k_in p_in q_in = omega arith

word_top : (n p k q : ℕ) → p < 4096 → q < 4096 → word_of n p k q / 0x0100_0000 ≡ (n * 8 + k) * 8
word_top n p k q p_in q_in = omega arith

times_eight : (n : ℕ) → n * 8 % 8 ≡ 0
times_eight n = omega arith

object_at : (es : List Entry) (c : Cell) → Within es c → c.slot ≡ 0 → 0 < length_of (blocks es) (number es c)
object_at es c lt own =
    let e : length_of (blocks es) (number es c) ≡ size_of es c.name =
    length_at es c lt ∙ cond-true (eqb c.slot 0) (size_of es c.name) 0 (eq-eqb c.slot 0 own) in
    omega arith

word_formed : (es : List Entry) (w : Named) → variables (blocks es) ≤ 256 → Lawful es w → WellFormed (blocks es) (word (first_of es) w)
word_formed es w few lawful =
    let n = w.kind in
    let p = number es w.left in
    let k = w.offset in
    let q = number es w.right in
    let p_in : p < variables (blocks es) = number_below es w.left lawful.left_in in
    let q_in : q < variables (blocks es) = number_below es w.right lawful.right_in in
    let p_low : p < 4096 = omega arith in
    let q_low : q < 4096 = omega arith in
    let is_kind : kind (word_of n p k q) ≡ n = kind_word n p k q lawful.kind_in lawful.offset_in p_low q_low in
    let is_right : right (word_of n p k q) ≡ q = right_word n p k q q_low in
    record {
      left_in = rw (left_word n p k q p_low q_low) p_in;
      right_in = rw is_right q_in;
      word_bits = word_small n p k q lawful.kind_in lawful.offset_in p_low q_low;
      zero_bits = ap (λ m. m % 8) (word_top n p k q p_low q_low) ∙ times_eight (n * 8 + k);
      no_offset = λ small. offset_word n p k q lawful.offset_in p_low q_low ∙ lawful.no_offset (rw is_kind at small);
      object_right = λ is_Address. rw is_right (object_at es w.right lawful.right_in (lawful.object_right (sym is_kind ∙ is_Address)));
    }

sized : (es : List Entry) → AllByRecursion Short es → (i : ℕ) → i < length (blocks es) → (0 < get_or (blocks es) i 0) × (get_or (blocks es) i 0 ≤ 8)
sized [] all i lt = absurd (not-suc-le-zero lt)
sized (e ∷ es) ((_, _, small), all) zero lt = (omega arith, omega arith)
sized (e ∷ es) (short, all) (suc i) lt = sized es all i (omega arith)

pub program_valid : (es : List Entry) (ws : List Named) → Program es ws → AllByRecursion Short es → length ws ≤ 512 → Valid (system es ws)
program_valid es ws program small few_words =
    record {
      sized = sized es small;
      few = program.few;
      few_words = rw (length-map ws (word (first_of es))) few_words;
      formed = λ i lt.
          let (w, w_in, e) = at_map (word (first_of es)) ws i lt in
          rw e (word_formed es w program.few (program.lawful w w_in));
    }
