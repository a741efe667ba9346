-- Where a text leaves the grammar. Assumes nothing.
use Rattle.std.specs.Prelude.{◌≡◌, ℕ, List, [], ◌∷◌, ◌++◌, Ok, Err, Result}
use Rattle.lexemes.specs.Terminals.{Terminal, Piece, lexeme, stray}
use Rattle.grammar.specs.Grammar.{Item, unit, Legal, Admitted, Begins}

-- the pieces are these lexemes
pub data Spells : List Piece → List Terminal → Type 0 where
  none : Spells [] []
  one : {at : ℕ} {l : Terminal} {ps : List Piece} {ls : List Terminal} → Spells ps ls → Spells (lexeme at l ∷ ps) (l ∷ ls)

-- A text of `size` bytes has the lexemes ls and then the pieces: the offset of the first piece up to and including which
-- its lexemes begin no unit's lexemes, or the size if only the end is missing.
pub data Fault (size : ℕ) : List Terminal → List Piece → ℕ → Type 0 where
  missing : {ls : List Terminal} → Begins ls → (Admitted ls → ⊥) → Fault size ls [] size
  strange : {ls : List Terminal} {ps : List Piece} {at : ℕ} → Begins ls → Fault size ls (stray at ∷ ps) at
  wrong : {ls : List Terminal} {l : Terminal} {ps : List Piece} {at : ℕ} → Begins ls → (Begins (ls ++ l ∷ []) → ⊥) → Fault size ls (lexeme at l ∷ ps) at
  later : {ls : List Terminal} {l : Terminal} {ps : List Piece} {at off : ℕ} → Fault size (ls ++ l ∷ []) ps off → Fault size ls (lexeme at l ∷ ps) off

-- the pieces are the lexemes of the unit u
abbrev pub Writes : List Item → List Piece → Type 0
Writes u ps = Legal u × Spells ps (unit u [])

-- what reading the pieces of a text gives: its items, or the offset of its fault
abbrev pub Reading : ℕ → List Piece → Result (List Item) ℕ → Type 0
Reading size ps (Ok u) = Writes u ps
Reading size ps (Err off) = Fault size [] ps off × ((u : List Item) → Writes u ps → ⊥)

-- a text is at most one unit's, and has at most one fault
pub record Determined : Type 0 where
  pub unit_of : (ps : List Piece) (u v : List Item) → Writes u ps → Writes v ps → u ≡ v
  pub fault_of : (size : ℕ) (ps : List Piece) (a b : ℕ) → Fault size [] ps a → Fault size [] ps b → a ≡ b
