-- What a text adds to the table and to the counts, where it stands under a number that was free.
use Rattle.std.specs.Prelude.{◌≡◌, ℕ, suc, ◌+◌, ◌<◌, ◌≤◌, cond, not, ◌&&◌, ◌||◌, List, [], ◌∷◌, ◌++◌, length, Some, None, ◌==◌, nat_lt, slice_index_or, slice_set}
use Rattle.std.specs.List.{AllByRecursion}
use Rattle.constraints.specs.Constraint.{variables}
use Rattle.lexemes.specs.Terminals.{Name}
use Rattle.grammar.specs.declared.item.Linkage.{Linkage}
use Rattle.units.specs.Listing.{words_in, pointers_in}
use Rattle.declarations.specs.Declarations.{Entry, size_of, declares, declared_in, fault_in}
use Rattle.books.specs.Members.{◌⊆◌, any_of}
use Rattle.books.specs.Tables.{first_of, distinct, Once, blocks}
use Rattle.books.specs.Books.{Units, standing, table, words, indirect_calls, is_defined, declares_name, defines, declaring, defining, Book}
use Rattle.books.specs.Loads.{clashes, clash}

-- a table grows by a name at its end, if the name is new
abbrev pub TableGrowsAtEnd : Type 0
TableGrowsAtEnd =
    (es : List Entry) (e : Entry) → distinct (es ++ e ∷ []) ≡ cond (size_of es e.name == 0) (distinct es ++ e ∷ []) (distinct es)

-- what entries behind a table leave and add
pub record Behind (es fs : List Entry) : Type 0 where
  pub all : variables (blocks (es ++ fs)) ≡ variables (blocks es) + variables (blocks fs)
  pub old_size : (n : List ℕ) → 0 < size_of es n → size_of (es ++ fs) n ≡ size_of es n
  pub new_size : (n : List ℕ) → size_of es n ≡ 0 → size_of (es ++ fs) n ≡ size_of fs n
  pub old_first : (n : List ℕ) → 0 < size_of es n → first_of (es ++ fs) n ≡ first_of es n
  pub new_first : (n : List ℕ) → size_of es n ≡ 0 → first_of (es ++ fs) n ≡ variables (blocks es) + first_of fs n

abbrev pub EntriesBehind : Type 0
EntriesBehind = (es fs : List Entry) → Behind es fs

-- tables with each name once that give names the same blocks have as many variables, whatever their order
abbrev pub SameSizesSameVariables : Type 0
SameSizesSameVariables =
    (es fs : List Entry) → Once es → Once fs → ((n : List ℕ) → size_of es n ≡ size_of fs n) → variables (blocks es) ≡ variables (blocks fs)

abbrev pub TableHasNamesOnce : Type 0
TableHasNamesOnce = (texts : List (List ℕ)) → Once (table texts)

-- books with the same texts have as many variables
abbrev pub SameTextsSameVariables : Type 0
SameTextsSameVariables =
    (ts us : List (List ℕ)) → Book ts → Book us → ts ⊆ us → us ⊆ ts → variables (blocks (table ts)) ≡ variables (blocks (table us))

-- the variables of those entries whose names the table lacks
abbrev pub fresh : List Entry → List Entry → ℕ
fresh es [] = 0
fresh es (f ∷ fs) = cond (size_of es f.name == 0) (suc f.slots) 0 + fresh es fs

-- names have 1 to 24 bytes, and blocks at most 8 variables
abbrev pub Short : Entry → Type 0
Short e = (0 < length e.name) × (length e.name ≤ 24) × (e.slots ≤ 7)

abbrev pub DeclaredNamesAreShort : Type 0
DeclaredNamesAreShort = (text : List ℕ) → AllByRecursion Short (declared_in text)

-- what the counts of the texts `many` are, which has one text more than `few`
pub record OneMore (few many : List (List ℕ)) (text : List ℕ) : Type 0 where
  pub word_count : length (words many) ≡ length (words few) + length (words_in text)
  pub call_count : length (indirect_calls many) ≡ length (indirect_calls few) + length (pointers_in text)
  pub declared : (n : List ℕ) → declaring many n ≡ declaring few n + cond (declares_name text n) 1 0
  pub defined : (n : List ℕ) → defining many n ≡ defining few n + cond (defines text n) 1 0

-- the same of the table
pub record Grown (few many : List (List ℕ)) (text : List ℕ) : Type 0 where
  pub sizes : (n : List ℕ) → size_of (table many) n ≡ cond (nat_lt 0 (size_of (table few) n)) (size_of (table few) n) (size_of (declared_in text) n)
  pub variable_count : variables (blocks (table many)) ≡ variables (blocks (table few)) + fresh (table few) (declared_in text)

abbrev pub LoadAdds : Type 0
LoadAdds =
    (units : Units) (u : ℕ) (text : List ℕ) → u < length units → slice_index_or units u None ≡ None
    → OneMore (standing units) (standing (slice_set units u (Some text))) text

abbrev pub LoadGrowsTable : Type 0
LoadGrowsTable =
    (units : Units) (u : ℕ) (text : List ℕ) → u < length units → slice_index_or units u None ≡ None → Book (standing units) → fault_in text ≡ None
    → clash (standing units) text ≡ None → Grown (standing units) (standing (slice_set units u (Some text))) text

abbrev pub UnloadTakes : Type 0
UnloadTakes =
    (units : Units) (u : ℕ) (text : List ℕ) → slice_index_or units u None ≡ Some text → OneMore (standing (slice_set units u None)) (standing units) text

abbrev pub UnloadShrinksTable : Type 0
UnloadShrinksTable =
    (units : Units) (u : ℕ) (text : List ℕ) → slice_index_or units u None ≡ Some text → Book (standing units)
    → Grown (standing (slice_set units u None)) (standing units) text

-- a name is in the table exactly while some text declares it
abbrev pub DeclaredWhileCounted : Type 0
DeclaredWhileCounted = (texts : List (List ℕ)) (n : List ℕ) → nat_lt 0 (size_of (table texts) n) ≡ nat_lt 0 (declaring texts n)

-- a declaration clashes exactly if its name has another size in the table, or both define it
abbrev pub ClashByCounts : Type 0
ClashByCounts =
    (texts : List (List ℕ)) → Book texts → (e : Linkage) (n : Name) (k : ℕ)
    → any_of (clashes (declares e n k)) texts
    ≡ ((nat_lt 0 (size_of (table texts) n.bytes) && not (size_of (table texts) n.bytes == suc k))
    || (is_defined e && nat_lt 0 (defining texts n.bytes)))
