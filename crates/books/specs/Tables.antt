-- Tables of names, each with a block of variables, and systems whose variables are written by name.
use Rattle.std.specs.Prelude.{◌≡◌, ℕ, suc, ◌+◌, ◌<◌, cond, List, [], ◌∷◌, map}
use Rattle.std.specs.Str.{bytes_eq}
use Rattle.constraints.specs.Constraint.{System}
use Rattle.declarations.specs.Declarations.{Entry, size_of}
use Rattle.units.specs.Words.{Cell, Named, variable, word}

-- the first variable of the name's block
abbrev pub first_of : List Entry → List ℕ → ℕ
first_of [] n = 0
first_of (e ∷ es) n = cond (bytes_eq e.name n) 0 (suc e.slots + first_of es n)

abbrev pub without : List ℕ → List Entry → List Entry
without n [] = []
without n (e ∷ es) = cond (bytes_eq e.name n) (without n es) (e ∷ without n es)

-- each name once, in order of first declaration
abbrev pub distinct : List Entry → List Entry
distinct [] = []
distinct (e ∷ es) = e ∷ without e.name (distinct es)

abbrev pub Once : List Entry → Type 0
Once [] = Unit {0}
Once (e ∷ es) = (size_of es e.name ≡ 0) × Once es

-- the blocks' lengths
abbrev pub blocks : List Entry → List ℕ
blocks [] = []
blocks (e ∷ es) = suc e.slots ∷ blocks es

abbrev pub Within : List Entry → Cell → Type 0
Within es c = c.slot < size_of es c.name

abbrev pub number : List Entry → Cell → ℕ
number es c = variable (first_of es) c

-- the cell of a name at a slot
abbrev pub slot : List ℕ → ℕ → Cell
slot n k = record { name = n; slot = k }

abbrev pub system : List Entry → List Named → System
system es ws = record { blocks = blocks es; words = map (word (first_of es)) ws }
