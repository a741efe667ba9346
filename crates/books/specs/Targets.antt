-- What targets writes: the functions of a row, by rising object, each followed by byte 10.
use Rattle.std.specs.Prelude.{◌≡◌, ℕ, suc, ◌+◌, ◌<◌, Bool, cond, ◌&&◌, List, [], ◌∷◌, ◌++◌, map, Some, None, Option, nat_lt}
use Rattle.std.specs.List.{flat_map, AllByRecursion, slice_get}
use Rattle.grammar.specs.Grammar.{Place}
use Rattle.units.specs.Words.{Cell}
use Rattle.units.specs.Statements.{cell}
use Rattle.units.specs.Listing.{pointers_in}
use Rattle.declarations.specs.Declarations.{Entry}
use Rattle.books.specs.Members.{◌∈◌}
use Rattle.books.specs.Tables.{first_of, Once, Within}
use Rattle.books.specs.Books.{Book, table}

-- over the blocks from the variable v on; a function's block has slots behind its own cell
abbrev pub functions_from : ℕ → List Entry → (ℕ → Bool) → List (List ℕ)
functions_from v [] row = []
functions_from v (e ∷ es) row = cond (nat_lt 0 e.slots && row v) (e.name ∷ []) [] ++ functions_from (v + suc e.slots) es row

-- the functions of a row, in the order of the table and so by rising object
abbrev pub functions : List Entry → (ℕ → Bool) → List (List ℕ)
functions es row = functions_from 0 es row

abbrev pub Rising : List ℕ → Type 0
Rising [] = Unit {0}
Rising (x ∷ xs) = AllByRecursion (λ y. x < y) xs × Rising xs

-- the objects of the listed functions rise, so each is listed once
abbrev pub TargetsRise : Type 0
TargetsRise = (es : List Entry) → Once es → (row : ℕ → Bool) → Rising (map (first_of es) (functions es row))

abbrev pub line : List ℕ → List ℕ
line n = n ++ 10 ∷ []

unfoldable pub targets : List Entry → (ℕ → Bool) → List ℕ
targets es row = flat_map line (functions es row)

abbrev pub cell_if : Option Place → Option Cell
cell_if None = None
cell_if (Some p) = Some (cell p)

-- the pointer of a text's indirect call i, from 0
unfoldable pub pointer : List ℕ → ℕ → Option Cell
pointer text i = cell_if (slice_get (pointers_in text) i)

-- the pointers of a standing text are in the table
abbrev pub PointersAreWithin : Type 0
PointersAreWithin =
    (texts : List (List ℕ)) → Book texts → (t : List ℕ) → t ∈ texts → (i : ℕ) (c : Cell) → pointer t i ≡ Some c → Within (table texts) c
