-- Names laid out, one block after another.
use Rattle.std.specs.Prelude.{◌≡◌, ℕ, suc, ◌<◌, ◌≤◌, true, cond, List, [], ◌∷◌, ◌++◌, map, is_ok, Option, ◌==◌}
use Rattle.std.specs.List.{flat_map, AllByRecursion}
use Rattle.constraints.specs.Constraint.{variables}
use Rattle.grammar.specs.Units.{outcome, read}
use Rattle.declarations.specs.Declarations.{Entry, size_of, Mention, declares, uses, calls, entry}
use Rattle.names.specs.declared.record.Note.{Note}
use Rattle.books.specs.Tables.{Once, blocks}
use Rattle.books.specs.Members.{◌∈◌}
use Rattle.books.specs.Books.{Units, standing, Book}
use Rattle.books.specs.Counts.{Short}
use Rattle.standing.specs.declared.list.Owner.{Owner}
use Rattle.standing.specs.declared.list.UnitList.{UnitList}
use Rattle.standing.specs.Lists.{list_in, owners_in}
use Rattle.standing.specs.Knowledge.{size_in, units_in, defined_in}
use Rattle.standing.specs.Firsts.{first_in, laid_first}
use Rattle.standing.specs.States.{owned_name, name_in_entry}

-- the list has these blocks, and the table says where each name's is
pub record Laid (units : Units) (es : List Entry) (known : List ℕ → Option Note) (l : UnitList) : Type 0 where
  pub few : variables (blocks es) ≤ 256
  pub total : l.variables ≡ variables (blocks es)
  pub lengths : (list_in l).blocks ≡ blocks es
  pub owned : map (owned_name units) (owners_in l) ≡ map name_in_entry es
  pub firsts : (n : List ℕ) → first_in (known n) ≡ laid_first es n

-- only where blocks are differs
pub record SameNotes (before after : List ℕ → Option Note) : Type 0 where
  pub sizes : (n : List ℕ) → size_in (after n) ≡ size_in (before n)
  pub counts : (n : List ℕ) → units_in (after n) ≡ units_in (before n)
  pub defined : (n : List ℕ) → defined_in (after n) ≡ defined_in (before n)

abbrev pub lay_entry : List Entry → Entry → List Entry
lay_entry es e = cond (size_of es e.name == 0) (es ++ e ∷ []) es

-- the blocks after those of a text's declarations
abbrev pub lay_all : List Entry → List Mention → List Entry
lay_all es [] = es
lay_all es (declares e n k ∷ ds) = lay_all (lay_entry es (record { name = n.bytes; slots = k })) ds
lay_all es (uses p ∷ ds) = lay_all es ds
lay_all es (calls f k ∷ ds) = lay_all es ds

-- the name can get its block: it is known with its slots, there is room, and the owner is where it is read
pub record Fits (units : Units) (es : List Entry) (e : Entry) (owner : Owner) (note : Option Note) : Type 0 where
  pub size : size_in note ≡ suc e.slots
  pub small : e.slots ≤ 7
  pub room : variables (blocks (lay_entry es e)) ≤ 256
  pub read : owned_name units owner ≡ e.name

-- a text's declarations can be laid out: each name once, known with its slots, and there is room
pub record Layable (es : List Entry) (ds : List Mention) (known : List ℕ → Option Note) : Type 0 where
  pub once : Once (flat_map entry ds)
  pub short : AllByRecursion Short (flat_map entry ds)
  pub sizes : (n : List ℕ) → 0 < size_of (flat_map entry ds) n → size_in (known n) ≡ size_of (flat_map entry ds) n
  pub room : variables (blocks (lay_all es ds)) ≤ 256

-- the texts are units, and can stand together
pub record StandingTexts (units : Units) : Type 0 where
  pub book : Book (standing units)
  pub admitted : (t : List ℕ) → t ∈ standing units → is_ok (outcome (read t)) ≡ true
