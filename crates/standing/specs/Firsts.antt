-- The first variables of blocks, as the table of names has them.
use Rattle.std.specs.Prelude.{◌≡◌, ℕ, ◌≤◌, cond, List, [], Some, None, Option, unwrap_or, nat_lt}
use Rattle.constraints.specs.Constraint.{variables}
use Rattle.grammar.specs.Grammar.{Place}
use Rattle.declarations.specs.Declarations.{Entry, size_of, has_slot}
use Rattle.books.specs.Tables.{first_of, blocks, number}
use Rattle.units.specs.declared.listing.ListedWord.{ListedWord}
use Rattle.units.specs.Words.{Cell}
use Rattle.units.specs.Statements.{cell}
use Rattle.units.specs.Listing.{listing}
use Rattle.names.specs.declared.record.Note.{Note}
use Rattle.names.specs.declared.table.NameTable.{NameTable}
use Rattle.names.specs.Held.{notes}
use Rattle.standing.specs.Knowledge.{size_in}

-- where the block is laid out
abbrev pub first_in : Option Note → Option ℕ
first_in None = None
first_in (Some note) = note.first

-- 0 where no block is laid out
abbrev pub first_at : Option Note → ℕ
first_at note = let v = unwrap_or (first_in note) 0 in cond (nat_lt v 256) v 0

-- the first variable of a name that has a block among these
abbrev pub laid_first : List Entry → List ℕ → Option ℕ
laid_first es n = cond (nat_lt 0 (size_of es n)) (Some (first_of es n)) None

-- the first variable of each name; 0 where no block is laid out
abbrev pub firsts_of : NameTable → List ℕ → ℕ
firsts_of t n = first_at (notes t n)

-- the words of a unit, if one stands
abbrev pub unit_listing : (List ℕ → ℕ) → ℕ → Option (List ℕ) → List ListedWord
unit_listing first u None = []
unit_listing first u (Some t) = listing first u t

-- the table knows these blocks, and where they are
pub record Places (es : List Entry) (known : List ℕ → Option Note) : Type 0 where
  pub few : variables (blocks es) ≤ 256
  pub sizes : (n : List ℕ) → size_in (known n) ≡ size_of es n
  pub firsts : (n : List ℕ) → first_in (known n) ≡ laid_first es n

-- the variable of a place, if its name has the slot
abbrev pub known_variable : List Entry → Place → Option ℕ
known_variable es p = cond (has_slot p.slot (size_of es p.base.bytes)) (Some (number es (cell p))) None

-- the variable of a cell, if its name has the slot
abbrev pub cell_if_within : List Entry → Option Cell → Option ℕ
cell_if_within es None = None
cell_if_within es (Some c) = cond (nat_lt c.slot (size_of es c.name)) (Some (number es c)) None
