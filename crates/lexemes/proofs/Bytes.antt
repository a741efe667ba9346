-- One byte of a text after another. Assumes nothing.
use Rattle.std.proofs.Common.{◌≡◌, ℕ, zero, suc, ◌+◌, ◌-◌, ◌<◌, ◌≤◌, min, Bool, unwrap_or, true, false, cond, not, ◌&&◌, leb, List, [], ◌∷◌, length, get_or, take, drop, Some, None, Option, sym, refl, ap, ◌∙◌, ⊎_elim, add-zero, arith}
use Rattle.std.specs.List.{position, position_or_len}
use Rattle.std.proofs.lemmas.Grind.{common_steps}
use Rattle.std.proofs.lemmas.List.Recursion.{is_position_or_len}
use Rattle.std.proofs.lemmas.List.Sums.{prefix_len-le-length, passes_at_first}
use Rattle.std.proofs.lemmas.List.{at_drop_more, drop_more, drop-drop, drop_all, take_all, length-drop, get_or-drop}
use Rattle.std.proofs.lemmas.Bool.{not-true, le-leb, lt-leb, cases_lt}
use Rattle.lexemes.specs.declared.class.Class.{Class}
use Rattle.lexemes.specs.declared.class.Class.TheVariants.{Blank, Letter, Digit, Sign, Other}
use Rattle.lexemes.specs.Classes.{class_of, is_blank}
use Rattle.lexemes.specs.Terminals.{Terminal, number, Piece, lexeme, stray}
use Rattle.lexemes.specs.Texts.{first_at}
use Rattle.lexemes.specs.Lexemes.{in_name, run, word_at, number_at, sign_at, spelled, digit_first, found, begun, pieces, pieces_from}

pub take_min : (n : ℕ) (xs : List ℕ) → take (min n (length xs)) xs ≡ take n xs
take_min n xs =
    ⊎_elim (λ h. ap (λ (m : ℕ). take m xs) (let e : min n (length xs) ≡ n = omega arith in e))
    (λ h. take_all (min n (length xs)) xs (omega arith) ∙ sym (take_all n xs h)) (cases_lt n (length xs))

-- the position of the first that passes, or the length
pub first_or_len : {X : Type 0} (p : X → Bool) (xs : List X) → unwrap_or (position p xs) (length xs) ≡ position_or_len p xs
first_or_len p xs = let most : position_or_len p xs ≤ length xs = prefix_len-le-length (λ x. not (p x)) xs in grind (arith, common_steps)

-- no letter and no digit, and no blank
abbrev pub ends_run : ℕ → Bool
ends_run b = not (in_name (class_of b))

abbrev pub ends_blanks : ℕ → Bool
ends_blanks b = not (is_blank b)

run_step : (c : Bool) (n : ℕ) → cond c (suc n) 0 ≡ cond (not c) 0 (1 + n)
run_step true n = omega arith
run_step false n = refl

pub run_is : (bs : List ℕ) → run bs ≡ unwrap_or (position ends_run bs) (length bs)
run_is bs = is_position_or_len run ends_run refl (λ b rest. run_step (in_name (class_of b)) (run rest)) bs ∙ sym (first_or_len ends_run bs)

-- a byte of class blank is a blank, and the other way round
class_blank : (b : ℕ) → class_of b ≡ Blank → is_blank b ≡ true
class_blank b e = grind arith

blank_class : (b : ℕ) → is_blank b ≡ true → class_of b ≡ Blank
blank_class b e = simp e

-- blanks are passed over
blank_step : (b at n : ℕ) (bs : List ℕ) (c : Bool) → is_blank b ≡ c → pieces (at + 1) 0 bs ≡ pieces ((at + 1) + n) 0 (drop n bs) →
    begun (class_of b) at b bs (λ k. pieces (at + 1) k bs) ≡ pieces (at + cond (not (not c)) (1 + n) 0) 0 (drop (cond (not (not c)) (1 + n) 0) (b ∷ bs))
blank_step b at n bs true e rest =
    ap (λ (k : Class). begun k at b bs (λ (m : ℕ). pieces (at + 1) m bs)) (blank_class b e) ∙ rest
    ∙ ap (λ (k : ℕ). pieces k 0 (drop n bs)) (let z : (at + 1) + n ≡ at + (1 + n) = omega arith in z)
    ∙ ap (λ (m : ℕ). pieces (at + (1 + n)) 0 (drop m (b ∷ bs))) (let z : suc n ≡ 1 + n = omega arith in z)
blank_step b at n bs false e rest = rw add-zero

blanks_skip : (bs : List ℕ) (at : ℕ) → pieces at 0 bs ≡ pieces (at + position_or_len ends_blanks bs) 0 (drop (position_or_len ends_blanks bs) bs)
blanks_skip [] at = refl
blanks_skip (b ∷ bs) at = blank_step b at (position_or_len ends_blanks bs) bs (is_blank b) refl (blanks_skip bs (at + 1))

-- from an offset on
from_part : (text : List ℕ) (from : ℕ) → take (length text - from) (drop from text) ≡ drop from text
from_part text from = take_all _ _ (omega (arith, length-drop from text))

from_cut : (text : List ℕ) (from : ℕ) → drop (min from (length text)) text ≡ drop from text
from_cut text from =
    ⊎_elim (λ h. ap (λ (n : ℕ). drop n text) (let e : min from (length text) ≡ from = omega arith in e))
    (λ h. drop_all _ text (omega arith) ∙ sym (drop_all from text h)) (cases_lt from (length text))

pub name_ends : (text : List ℕ) (from n : ℕ) (end : Option ℕ) → end ≡ position ends_run (take (length text - from) (drop from text)) →
    n ≡ unwrap_or end (length (take (length text - from) (drop from text))) → n ≡ run (drop from text)
name_ends text from n end first is =
    is ∙ ap (λ (o : Option ℕ). unwrap_or o (length (take (length text - from) (drop from text)))) first ∙ sym (run_is (take (length text - from) (drop from text))) ∙ ap run (from_part text from)

-- blanks, by where they end
module _ (text : List ℕ) (at cut n : ℕ) (end : Option ℕ) (cut_at : cut ≡ min at (length text))
    (first : end ≡ position ends_blanks (take (length text - cut) (drop cut text))) (is : n ≡ unwrap_or end (length (take (length text - cut) (drop cut text)))) where
  size : n ≡ position_or_len ends_blanks (drop at text)
  size =
      is ∙ ap (λ (o : Option ℕ). unwrap_or o (length (take (length text - cut) (drop cut text)))) first ∙ first_or_len ends_blanks (take (length text - cut) (drop cut text))
      ∙ ap (position_or_len ends_blanks) (from_part text cut ∙ ap (λ (k : ℕ). drop k text) cut_at ∙ from_cut text at)

  pub blanks_passed : pieces_from text at ≡ pieces_from text (at + n)
  blanks_passed =
      blanks_skip (drop at text) at ∙ ap (λ (k : ℕ). pieces (at + k) 0 (drop k (drop at text))) (sym size) ∙ ap (pieces (at + n) 0) (drop-drop n at text)

  pub blanks_stop : at + n < length text → class_of (get_or text (at + n) 0) ≡ Blank → ⊥
  blanks_stop more blank =
      let inside : position_or_len ends_blanks (drop at text) < length (drop at text) = omega (arith, size, length-drop at text) in
      let passes : ends_blanks (get_or (drop at text) (position_or_len ends_blanks (drop at text)) 0) ≡ true = passes_at_first ends_blanks (drop at text) 0 inside in
      let here : get_or (drop at text) (position_or_len ends_blanks (drop at text)) 0 ≡ get_or text (at + n) 0 =
      get_or-drop at text _ 0 ∙ ap (λ (k : ℕ). get_or text (at + k) 0) (sym size) in
      let is_one : is_blank (get_or text (at + n) 0) ≡ true = class_blank (get_or text (at + n) 0) blank in
      let z : true ≡ false = sym is_one ∙ not-true (is_blank (get_or text (at + n) 0)) (sym (ap ends_blanks here) ∙ passes) in cc

pub pieces_begin : (text : List ℕ) (i : ℕ) (c : Class) → i < length text → c ≡ class_of (get_or text i 0) →
    pieces_from text i ≡ begun c i (get_or text i 0) (drop (i + 1) text) (λ k. pieces (i + 1) k (drop (i + 1) text))
pieces_begin text i c h e =
    at_drop_more (pieces i 0) text i 0 h ∙ ap (λ (k : Class). begun k i (get_or text i 0) (drop (i + 1) text) (λ n. pieces (i + 1) n (drop (i + 1) text))) (sym e)

-- the bytes of a lexeme are passed over
pub pieces_skip : (bs : List ℕ) (at n : ℕ) → pieces at n bs ≡ pieces (at + n) 0 (drop n bs)
pieces_skip [] at zero = refl
pieces_skip [] at (suc n) = refl
pieces_skip (b ∷ bs) at zero = rw add-zero
pieces_skip (b ∷ bs) at (suc n) = pieces_skip bs (at + 1) n ∙ ap (λ (k : ℕ). pieces k 0 (drop n bs)) (omega arith)

-- a name or a word, by where its letters and digits end
module _ (text : List ℕ) (at end : ℕ) (inside : at < length text) (letter : Letter ≡ class_of (get_or text at 0))
    (ends : end ≡ (at + 1) + run (drop (at + 1) text)) where
  pub word_long : 24 < end - at → pieces_from text at ≡ stray at ∷ []
  word_long long =
      let no : leb (run (drop (at + 1) text)) 23 ≡ false = lt-leb _ _ (omega arith) in
      pieces_begin text at Letter inside letter ∙ simp no

  pub word_read : end - at ≤ 24 → pieces_from text at ≡ lexeme at (spelled at (take (end - at) (drop at text))) ∷ pieces_from text end
  word_read short =
      let bs : List ℕ = drop (at + 1) text in
      let fits : leb (run bs) 23 ≡ true = le-leb _ _ (omega arith) in
      let size : end - at ≡ suc (run bs) = omega arith in
      let bytes : take (end - at) (drop at text) ≡ get_or text at 0 ∷ take (run bs) bs = ap (λ (n : ℕ). take n (drop at text)) size ∙ ap (take (suc (run bs))) (drop_more text at 0 inside) in
      let rest : pieces (at + 1) (run bs) bs ≡ pieces_from text end =
      pieces_skip bs (at + 1) (run bs) ∙ ap (pieces ((at + 1) + run bs) 0) (drop-drop (run bs) (at + 1) text) ∙ ap (pieces_from text) (sym ends) in
      pieces_begin text at Letter inside letter ∙ simp (fits, bytes, rest)

-- a number
module _ (text : List ℕ) (at : ℕ) (inside : at < length text) (digit : Digit ≡ class_of (get_or text at 0)) where
  pub number_none : (leb (get_or text at 0) 54 && not (digit_first (drop (at + 1) text))) ≡ false → pieces_from text at ≡ stray at ∷ []
  number_none e = pieces_begin text at Digit inside digit ∙ simp e

  pub number_read : (leb (get_or text at 0) 54 && not (digit_first (drop (at + 1) text))) ≡ true → pieces_from text at ≡ lexeme at (number (get_or text at 0 - 48)) ∷ pieces_from text (at + 1)
  number_read e = pieces_begin text at Digit inside digit ∙ simp e

-- a part, and the same part cut to where the text ends
pub cut_part : (text : List ℕ) (from to f t : ℕ) → t ≡ min to (length text) → f ≡ min from t → take (t - f) (drop f text) ≡ take (to - from) (drop from text)
cut_part text from to f t et ef =
    ⊎_elim
    (λ some.
    ⊎_elim
    (λ past.
    ap (λ (n : ℕ). take n (drop f text)) (let z : t - f ≡ 0 = omega arith in z)
    ∙ sym (ap (take (to - from)) (drop_all from text (omega arith)) ∙ take_all (to - from) [] (omega arith)))
    (λ inside.
    let same : f ≡ from = omega arith in
    ap (λ (k : ℕ). take (t - k) (drop k text)) same
    ∙ ⊎_elim
    (λ over.
    let long : length (drop from text) ≡ length text - from = length-drop from text in
    take_all (t - from) (drop from text) (omega arith) ∙ sym (take_all (to - from) (drop from text) (omega arith)))
    (λ fits. ap (λ (n : ℕ). take n (drop from text)) (let z : t - from ≡ to - from = omega arith in z))
    (cases_lt (length text) to))
    (cases_lt (length text) from))
    (λ empty.
    ap (λ (n : ℕ). take n (drop f text)) (let z : t - f ≡ 0 = omega arith in z)
    ∙ sym (ap (λ (n : ℕ). take n (drop from text)) (let z : to - from ≡ 0 = omega arith in z)))
    (cases_lt from to)

-- pieces begin at a byte that is no blank
found_first : (at : ℕ) (o : Option Terminal) (ps : List Piece) → first_at (found at o ps) ≡ at
found_first at (Some l) ps = refl
found_first at None ps = refl

begun_first : (c : Class) (at b : ℕ) (bs : List ℕ) (rest : ℕ → List Piece) → (c ≡ Blank → ⊥) → first_at (begun c at b bs rest) ≡ at
begun_first Blank at b bs rest h = absurd (h refl)
begun_first Letter at b bs rest h = found_first at (word_at at b bs) _
begun_first Digit at b bs rest h = found_first at (number_at b bs) _
begun_first Sign at b bs rest h = found_first at (sign_at b) _
begun_first Other at b bs rest h = refl

pub first_at_lem : (text : List ℕ) (i : ℕ) → i < length text → (class_of (get_or text i 0) ≡ Blank → ⊥) → first_at (pieces_from text i) ≡ i
first_at_lem text i h blank = ap first_at (pieces_begin text i (class_of (get_or text i 0)) h refl) ∙ begun_first (class_of (get_or text i 0)) i _ _ _ blank
