-- Words whose variables are written by name.
use Rattle.std.specs.Prelude.{ℕ, ◌+◌, ◌<◌, List}
use Rattle.constraints.specs.declared.constraint.Constraint.{Constraint}
use Rattle.constraints.specs.declared.constraint.Constraint.TheVariants.{Address, Copy, Load, Store}
use Rattle.constraints.specs.Encoding.{word_of}

-- a variable by its name: slot 0 is the name's own cell, 1 the result, 1 + j parameter j
pub record Cell : Type 0 where
  pub name : List ℕ
  pub slot : ℕ

-- kind (0 address, 1 copy, 2 load, 3 store), left variable, offset, right variable
pub record Named : Type 0 where
  pub kind : ℕ
  pub left : Cell
  pub offset : ℕ
  pub right : Cell

-- a cell's variable and a word, by the first variable of each name
abbrev pub variable : (List ℕ → ℕ) → Cell → ℕ
variable first c = first c.name + c.slot

abbrev pub word : (List ℕ → ℕ) → Named → ℕ
word first w = word_of w.kind (variable first w.left) w.offset (variable first w.right)

-- a constraint whose variables and offset fit their bits, and its word
abbrev pub Fits : Constraint → Type 0
Fits (Address p o) = (p < 4096) × (o < 4096)
Fits (Copy p q) = (p < 4096) × (q < 4096)
Fits (Load p q k) = (p < 4096) × (q < 4096) × (k < 8)
Fits (Store p k q) = (p < 4096) × (q < 4096) × (k < 8)

abbrev pub packed : Constraint → ℕ
packed (Address p o) = word_of 0 p 0 o
packed (Copy p q) = word_of 1 p 0 q
packed (Load p q k) = word_of 2 p k q
packed (Store p k q) = word_of 3 p k q
