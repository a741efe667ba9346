-- What the reader's values mean, over the text that they were read from. Assumes nothing.
use Rattle.std.specs.Prelude.{ℕ, ◌-◌, ◌<◌, ◌≤◌, List, [], ◌∷◌, take, drop, Some, None, Ok, Err, Option, Result}
use Rattle.lexemes.specs.declared.lexeme.Span.{Span}
use Rattle.lexemes.specs.declared.lexeme.Lexeme.{Lexeme}
use Rattle.lexemes.specs.declared.lexeme.Lexeme.TheVariants.{Sign, Word, Name, Number}
use Rattle.lexemes.specs.declared.lexeme.Token.{Token}
use Rattle.lexemes.specs.Terminals.{Name as NameOf, Terminal, sign, word, name, number, Piece, lexeme, stray}
use Rattle.lexemes.specs.Lexemes.{pieces_from}

abbrev pub name_in_text : List ℕ → Span → NameOf
name_in_text text s = record { at = s.from; bytes = take (s.to - s.from) (drop s.from text) }

abbrev pub terminal : List ℕ → Lexeme → Terminal
terminal text (Sign s) = sign s
terminal text (Word w) = word w
terminal text (Name s) = name (name_in_text text s)
terminal text (Number n) = number n

-- the pieces that begin with a token, end, or begin with a run that is no lexeme
abbrev pub pieces_of : List ℕ → Result (Option Token) ℕ → List Piece
pieces_of text (Ok None) = []
pieces_of text (Ok (Some t)) = lexeme t.at (terminal text t.lexeme) ∷ pieces_from text t.end
pieces_of text (Err at) = stray at ∷ []

-- a token ends past an offset, and within a text of `size` bytes
abbrev pub Onward : ℕ → ℕ → Result (Option Token) ℕ → Type 0
Onward size at (Ok None) = Unit {0}
Onward size at (Ok (Some t)) = (at < t.end) × (t.end ≤ size)
Onward size at (Err off) = Unit {0}

-- the offset of the first piece, 0 where there is none
abbrev pub first_at : List Piece → ℕ
first_at [] = 0
first_at (lexeme at l ∷ ps) = at
first_at (stray at ∷ ps) = at
