-- What a target list is read off: the table's entries in order, block by block.
use Rattle.std.specs.Prelude.{◌≡◌, ℕ, ◌<◌, ◌≤◌, Bool, cond, ◌&&◌, List, [], map, length, nat_lt}
use Rattle.std.specs.List.{AllByRecursion}
use Rattle.constraints.specs.Constraint.{System, variables, length_of}
use Rattle.declarations.specs.Declarations.{Entry}
use Rattle.books.specs.Books.{Units}
use Rattle.books.specs.Tables.{blocks}
use Rattle.books.specs.Targets.{line}
use Rattle.engine.specs.Meanings.{Meaning}
use Rattle.standing.specs.declared.list.Owner.{Owner}
use Rattle.standing.specs.States.{owned_name, name_in_entry}
use Rattle.host_analyser.specs.Objects.{AnswersFor}

abbrev pub Short : Entry → Type 0
Short e = length e.name ≤ 24

-- the engine's list and the laid out list have the entries' blocks, and each block's owner leads to its name
pub record Tabled (es : List Entry) (sys : System) (units : Units) (list : System) (owners : List Owner) : Type 0 where
  pub held : sys.blocks ≡ blocks es
  pub laid : list.blocks ≡ blocks es
  pub owned : map (owned_name units) owners ≡ map name_in_entry es
  pub short : AllByRecursion Short es
  pub few : variables (blocks es) ≤ 256

-- the line of a block, if it is a function's and the row has its object
abbrev pub target_line : (ℕ → Bool) → ℕ → ℕ → List ℕ → List ℕ
target_line row size first name = cond (nat_lt 1 size && row first) (line name) []

-- an engine that answers for v, at the first variable of a block whose name is short
pub record BlockAnswers (m : Meaning) (v first : ℕ) (name : List ℕ) : Type 0 where
  pub ready : AnswersFor m v
  pub object : 0 < length_of m.system.blocks first
  pub inside : first < 256
  pub short : length name ≤ 24
