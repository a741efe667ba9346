-- Solutions by names: nothing here speaks of numbers of variables or of units.
use Rattle.std.specs.Prelude.{ℕ, zero, suc, ◌<◌, Bool, T, ◌↔◌, List}
use Rattle.constraints.specs.Constraint.{Valid}
use Rattle.units.specs.Words.{Cell, Named}
use Rattle.declarations.specs.Declarations.{size_of}
use Rattle.books.specs.Members.{◌∈◌}
use Rattle.books.specs.Tables.{Within, slot}
use Rattle.books.specs.Books.{Book, table, words, list_of, row}
use Rattle.books.specs.Replies.{has_object, shares}
use Rattle.books.specs.Targets.{functions}

-- a row for each cell: a set of names
abbrev pub NamedRows : Type 0
NamedRows = Cell → List ℕ → Bool

-- the rule of a word of this kind, where `size` gives the length of a name's block
abbrev pub Keeps : (List ℕ → ℕ) → ℕ → Cell → ℕ → Cell → NamedRows → Type 0
Keeps size zero p k q R = T (R p q.name)
Keeps size (suc zero) p k q R = (o : List ℕ) → T (R q o) → T (R p o)
Keeps size (suc (suc zero)) p k q R = (o x : List ℕ) → T (R q o) → k < size o → T (R (slot o k) x) → T (R p x)
Keeps size (suc (suc (suc n))) p k q R = (o x : List ℕ) → T (R p o) → k < size o → T (R q x) → T (R (slot o k) x)

-- a solution of the texts: rows of their cells, sets of their names, that meet the rule of every word
pub record SolutionOf (texts : List (List ℕ)) (R : NamedRows) : Type 0 where
  pub typed : (c : Cell) (n : List ℕ) → T (R c n) → Within (table texts) c × Within (table texts) (slot n 0)
  pub solves : (w : Named) → w ∈ words texts → Keeps (size_of (table texts)) w.kind w.left w.offset w.right R

-- a book's list is one that every engine takes
abbrev pub ListIsValid : Type 0
ListIsValid = (texts : List (List ℕ)) → Book texts → Valid (list_of texts)

-- the smallest solution has the name in the cell's row exactly when every solution has
abbrev pub PointsInEverySolution : Type 0
PointsInEverySolution =
    (texts : List (List ℕ)) → Book texts → (c : Cell) (n : List ℕ) → Within (table texts) c → Within (table texts) (slot n 0)
    → T (has_object texts c n) ↔ ((R : NamedRows) → SolutionOf texts R → T (R c n))

-- its two rows share an object exactly when they do so in every solution
abbrev pub AliasInEverySolution : Type 0
AliasInEverySolution =
    (texts : List (List ℕ)) → Book texts → (c d : Cell) → Within (table texts) c → Within (table texts) d
    → T (shares texts c d) ↔ ((R : NamedRows) → SolutionOf texts R → (n : List ℕ) × T (R c n) × T (R d n))

-- a name is listed as a target exactly when it is a function and every solution gives it to the pointer
abbrev pub TargetsInEverySolution : Type 0
TargetsInEverySolution =
    (texts : List (List ℕ)) → Book texts → (c : Cell) (n : List ℕ) → Within (table texts) c
    → (n ∈ functions (table texts) (row texts c)) ↔ (Within (table texts) (slot n 1) × ((R : NamedRows) → SolutionOf texts R → T (R c n)))
