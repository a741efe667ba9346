-- The lexemes of a text, from its bytes. Assumes nothing.
use Rattle.std.specs.Prelude.{◌≡◌, ℕ, zero, suc, ◌+◌, ◌-◌, ◌≤◌, Bool, true, false, cond, not, ◌&&◌, List, [], ◌∷◌, length, take, drop, Some, None, codes, Option, ◌==◌, nat_le}
use Rattle.std.specs.Str.{bytes_eq}
use Rattle.lexemes.specs.declared.class.Class.{Class}
use Rattle.lexemes.specs.declared.class.Class.TheVariants.{Blank, Letter, Digit, Sign as Signs, Other}
use Rattle.lexemes.specs.declared.lexeme.Sign.{Sign}
use Rattle.lexemes.specs.declared.lexeme.Sign.TheVariants.{Equals, Ampersand, Star, Open, Close, Comma, Semicolon, Stop}
use Rattle.lexemes.specs.declared.lexeme.Word.{Word}
use Rattle.lexemes.specs.declared.lexeme.Word.TheVariants.{Var, Fun, Extern}
use Rattle.lexemes.specs.Classes.{is_letter, class_of}
use Rattle.lexemes.specs.Terminals.{Terminal, sign, word, name, number, Piece, lexeme, stray}

abbrev pub sign_of : ℕ → Option Sign
sign_of b =
    cond (b == 61) (Some Equals) (cond (b == 38) (Some Ampersand) (cond (b == 42) (Some Star) (cond (b == 40) (Some Open)
    (cond (b == 41) (Some Close) (cond (b == 44) (Some Comma) (cond (b == 59) (Some Semicolon) (cond (b == 46) (Some Stop) None)))))))

abbrev pub reserved : List ℕ → Option Word
reserved bs = cond (bytes_eq bs (codes "var")) (Some Var) (cond (bytes_eq bs (codes "fun")) (Some Fun) (cond (bytes_eq bs (codes "extern")) (Some Extern) None))

abbrev pub is_digit : Class → Bool
is_digit Blank = false
is_digit Letter = false
is_digit Digit = true
is_digit Signs = false
is_digit Other = false

abbrev pub in_name : Class → Bool
in_name Blank = false
in_name Letter = true
in_name Digit = true
in_name Signs = false
in_name Other = false

-- a letter, then letters or digits, at most 24 bytes, and no reserved word
abbrev pub all_in_name : List ℕ → Bool
all_in_name [] = true
all_in_name (b ∷ bs) = in_name (class_of b) && all_in_name bs

abbrev pub is_free : Option Word → Bool
is_free (Some w) = false
is_free None = true

abbrev pub is_name : List ℕ → Bool
is_name [] = false
is_name (b ∷ bs) = is_letter b && (all_in_name bs && (nat_le (length bs) 23 && is_free (reserved (b ∷ bs))))

-- what a text can have as a lexeme
abbrev pub Lexical : Terminal → Type 0
Lexical (sign s) = Unit {0}
Lexical (word w) = Unit {0}
Lexical (name n) = is_name n.bytes ≡ true
Lexical (number k) = k ≤ 6

-- how far letters and digits go
abbrev pub run : List ℕ → ℕ
run [] = 0
run (b ∷ bs) = cond (in_name (class_of b)) (suc (run bs)) 0

-- a reserved word, or a name
abbrev pub spelled : ℕ → List ℕ → Terminal
spelled at bs = elim (reserved bs) [ Some w ↦ word w | None ↦ name (record { at = at; bytes = bs }) ]

-- the lexeme at an offset, from its first byte b and the bytes bs after it, by the class of b
abbrev pub word_at : ℕ → ℕ → List ℕ → Option Terminal
word_at at b bs = cond (nat_le (run bs) 23) (Some (spelled at (b ∷ take (run bs) bs))) None

abbrev pub digit_first : List ℕ → Bool
digit_first [] = false
digit_first (b ∷ bs) = is_digit (class_of b)

abbrev pub number_at : ℕ → List ℕ → Option Terminal
number_at b bs = cond (nat_le b 54 && not (digit_first bs)) (Some (number (b - 48))) None

abbrev pub signed : Option Sign → Option Terminal
signed (Some s) = Some (sign s)
signed None = None

abbrev pub sign_at : ℕ → Option Terminal
sign_at b = signed (sign_of b)

-- a lexeme and what follows it; nothing is read after a run that is none
abbrev pub found : ℕ → Option Terminal → List Piece → List Piece
found at (Some l) rest = lexeme at l ∷ rest
found at None rest = stray at ∷ []

-- the pieces that begin with a byte b of a class, before the bytes bs; `rest k` are those after k bytes of bs
abbrev pub begun : Class → ℕ → ℕ → List ℕ → (ℕ → List Piece) → List Piece
begun Blank at b bs rest = rest 0
begun Letter at b bs rest = found at (word_at at b bs) (rest (run bs))
begun Digit at b bs rest = found at (number_at b bs) (rest 0)
begun Signs at b bs rest = found at (sign_at b) (rest 0)
begun Other at b bs rest = stray at ∷ []

-- the pieces of the bytes at an offset, of which the first `busy` belong to the lexeme before
abbrev pub pieces : ℕ → ℕ → List ℕ → List Piece
pieces at busy [] = []
pieces at (suc busy) (b ∷ bs) = pieces (at + 1) busy bs
pieces at zero (b ∷ bs) = begun (class_of b) at b bs (λ k. pieces (at + 1) k bs)

-- the pieces of a text from an offset on
abbrev pub pieces_from : List ℕ → ℕ → List Piece
pieces_from text at = pieces at 0 (drop at text)
