-- Every lexeme of a text is a sign, a reserved word, a name or a number as the rules have them. Assumes nothing.
use Rattle.std.proofs.Common.{◌≡◌, ℕ, zero, suc, ◌+◌, ◌-◌, ◌≤◌, Bool, true, false, cond, not, ◌&&◌, leb, List, [], ◌∷◌, length, take, drop, Some, None, Option, refl, ap, arith}
use Rattle.std.specs.Char.{is_ascii_digit}
use Rattle.std.specs.List.{AllByRecursion}
use Rattle.std.proofs.lemmas.List.{length-take}
use Rattle.std.proofs.lemmas.Bool.{cond_both, leb-true, le-leb, and_parts, and_from}
use Rattle.lexemes.specs.declared.class.Class.{Class}
use Rattle.lexemes.specs.declared.class.Class.TheVariants.{Blank, Letter, Digit, Sign as Signs, Other}
use Rattle.lexemes.specs.declared.lexeme.Word.{Word}
use Rattle.lexemes.specs.declared.lexeme.Sign.{Sign}
use Rattle.lexemes.specs.Classes.{is_blank, is_letter, is_sign, class_of}
use Rattle.lexemes.specs.Terminals.{Terminal, number, Piece, lexeme, stray}
use Rattle.lexemes.specs.Lexemes.{reserved, in_name, all_in_name, is_free, is_name, Lexical, run, spelled, sign_of, signed, word_at, number_at, sign_at, digit_first, found, begun, pieces, pieces_from}

abbrev pub LexicalPiece : Piece → Type 0
LexicalPiece (lexeme at l) = Lexical l
LexicalPiece (stray at) = Unit {0}

abbrev IfAny : Option Terminal → Type 0
IfAny (Some l) = Lexical l
IfAny None = Unit {0}

found_lexical : (at : ℕ) (o : Option Terminal) (rest : List Piece) → IfAny o → AllByRecursion LexicalPiece rest → AllByRecursion LexicalPiece (found at o rest)
found_lexical at (Some l) rest h all = (h, all)
found_lexical at None rest h all = (tt, tt)

-- a run is of letters and digits
run_step : (b : ℕ) (bs : List ℕ) (c : Bool) → in_name (class_of b) ≡ c → all_in_name (take (run bs) bs) ≡ true → all_in_name (take (cond c (suc (run bs)) 0) (b ∷ bs)) ≡ true
run_step b bs true e h = and_from _ _ e h
run_step b bs false e h = refl

run_in_name : (bs : List ℕ) → all_in_name (take (run bs) bs) ≡ true
run_in_name [] = refl
run_in_name (b ∷ bs) = run_step b bs (in_name (class_of b)) refl (run_in_name bs)

-- a byte of class letter is a letter
abbrev Lettered : ℕ → Class → Type 0
Lettered b c = c ≡ Letter → is_letter b ≡ true

letter_class : (b : ℕ) → Lettered b (class_of b)
letter_class b =
    cond_both (is_blank b) Blank _ (Lettered b) (λ _ z. cc)
    (λ _. cond_both (is_letter b) Letter _ (Lettered b) (λ e _. e)
    (λ _. cond_both (is_ascii_digit b) Digit _ (Lettered b) (λ _ z. cc)
    (λ _. cond_both (is_sign b) Signs Other (Lettered b) (λ _ z. cc) (λ _ z. cc))))

spelled_lexical : (at b : ℕ) (bs : List ℕ) → is_letter b ≡ true → all_in_name bs ≡ true → length bs ≤ 23 → Lexical (spelled at (b ∷ bs))
spelled_lexical at b bs letter rest few = go (reserved (b ∷ bs)) refl
  where
    go : (o : Option Word) → reserved (b ∷ bs) ≡ o → Lexical (spelled at (b ∷ bs))
    go (Some w) e = rw (e, Lexical, spelled) tt
    go None e =
        let ok : is_name (b ∷ bs) ≡ true = and_from _ _ letter (and_from _ _ rest (and_from _ _ (le-leb _ _ few) (ap is_free e))) in
        rw (e, Lexical, spelled) ok

word_lexical : (at b : ℕ) (bs : List ℕ) → is_letter b ≡ true → IfAny (word_at at b bs)
word_lexical at b bs letter =
    cond_both (leb (run bs) 23) _ None IfAny
    (λ e. spelled_lexical at b (take (run bs) bs) letter (run_in_name bs) (omega (arith, leb-true (run bs) 23 e, length-take (run bs) bs))) (λ _. tt)

number_lexical : (b : ℕ) (bs : List ℕ) → IfAny (number_at b bs)
number_lexical b bs =
    cond_both (leb b 54 && not (digit_first bs)) (Some (number (b - 48))) None IfAny
    (λ e. let small : b ≤ 54 = leb-true b 54 (and_parts (leb b 54) (not (digit_first bs)) e).0 in omega arith) (λ _. tt)

signed_lexical : (o : Option Sign) → IfAny (signed o)
signed_lexical (Some s) = tt
signed_lexical None = tt

begun_lexical : (c : Class) (at b : ℕ) (bs : List ℕ) (rest : ℕ → List Piece) → Lettered b c → ((k : ℕ) → AllByRecursion LexicalPiece (rest k)) → AllByRecursion LexicalPiece (begun c at b bs rest)
begun_lexical Blank at b bs rest is all = all 0
begun_lexical Letter at b bs rest is all = found_lexical at (word_at at b bs) (rest (run bs)) (word_lexical at b bs (is refl)) (all (run bs))
begun_lexical Digit at b bs rest is all = found_lexical at (number_at b bs) (rest 0) (number_lexical b bs) (all 0)
begun_lexical Signs at b bs rest is all = found_lexical at (sign_at b) (rest 0) (signed_lexical (sign_of b)) (all 0)
begun_lexical Other at b bs rest is all = (tt, tt)

pieces_lexical : (at busy : ℕ) (bs : List ℕ) → AllByRecursion LexicalPiece (pieces at busy bs)
pieces_lexical at busy [] = tt
pieces_lexical at zero (b ∷ bs) = begun_lexical (class_of b) at b bs (λ k. pieces (at + 1) k bs) (letter_class b) (λ k. pieces_lexical (at + 1) k bs)
pieces_lexical at (suc busy) (b ∷ bs) = pieces_lexical (at + 1) busy bs

pub text_lexical : (text : List ℕ) (at : ℕ) → AllByRecursion LexicalPiece (pieces_from text at)
text_lexical text at = pieces_lexical at 0 (drop at text)
