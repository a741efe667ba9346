-- Lexemes as the grammar knows them, and the pieces of a text. Assumes nothing.
use Rattle.std.specs.Prelude.{ℕ, List}
use Rattle.lexemes.specs.declared.lexeme.Sign.{Sign}
use Rattle.lexemes.specs.declared.lexeme.Word.{Word}

-- a name, with the offset at which it stands
pub record Name : Type 0 where
  pub at : ℕ
  pub bytes : List ℕ

pub data Terminal : Type 0 where
  sign : Sign → Terminal
  word : Word → Terminal
  name : Name → Terminal
  number : ℕ → Terminal

-- a lexeme of a text, or a run that is none, with its offset
pub data Piece : Type 0 where
  lexeme : ℕ → Terminal → Piece
  stray : ℕ → Piece
