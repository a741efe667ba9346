-- The list of a book: its standing texts by rising unit number, their names, blocks and words.
use Rattle.std.specs.Prelude.{◌≡◌, ℕ, ◌<◌, ◌≤◌, Bool, true, false, ◌&&◌, ◌⊎◌, List, [], ◌∷◌, length, Some, None, Option, nat_lt}
use Rattle.std.specs.List.{flat_map}
use Rattle.std.specs.Str.{bytes_eq}
use Rattle.constraints.specs.Constraint.{System, variables}
use Rattle.constraints.specs.Least.{least}
use Rattle.grammar.specs.declared.item.Linkage.{Linkage}
use Rattle.grammar.specs.declared.item.Linkage.TheVariants.{Defined, External}
use Rattle.grammar.specs.Grammar.{Place}
use Rattle.units.specs.Words.{Cell, Named}
use Rattle.units.specs.Listing.{words_in, pointers_in}
use Rattle.declarations.specs.Declarations.{Entry, size_of, Mention, declares, uses, calls, mentions_in, declared_in, fault_in}
use Rattle.books.specs.Members.{◌∈◌, any_of, count_of}
use Rattle.books.specs.Tables.{distinct, blocks, number, system}

-- under each unit number a text or none
abbrev pub Units : Type 0
Units = List (Option (List ℕ))

-- the standing texts, by rising unit number
abbrev pub standing : Units → List (List ℕ)
standing [] = []
standing (None ∷ us) = standing us
standing (Some t ∷ us) = t ∷ standing us

-- a text stands, under whatever number
abbrev pub Stands : List ℕ → Units → Type 0
Stands t [] = ⊥
Stands t (u ∷ units) = (u ≡ Some t) ⊎ Stands t units

-- each text of either stands in the other
abbrev pub SameTexts : Units → Units → Type 0
SameTexts b c = ((t : List ℕ) → Stands t b → Stands t c) × ((t : List ℕ) → Stands t c → Stands t b)

-- names in order of first declaration over all texts
unfoldable pub table : List (List ℕ) → List Entry
table texts = distinct (flat_map declared_in texts)

unfoldable pub words : List (List ℕ) → List Named
words texts = flat_map words_in texts

abbrev pub list_of : List (List ℕ) → System
list_of texts = system (table texts) (words texts)

-- the pointers of the indirect calls
unfoldable pub indirect_calls : List (List ℕ) → List Place
indirect_calls texts = flat_map pointers_in texts

abbrev pub is_defined : Linkage → Bool
is_defined Defined = true
is_defined External = false

abbrev pub defines_at : List ℕ → Mention → Bool
defines_at n (declares e m k) = is_defined e && bytes_eq m.bytes n
defines_at n (uses p) = false
defines_at n (calls f k) = false

-- the text declares the name
abbrev pub declares_name : List ℕ → List ℕ → Bool
declares_name text n = nat_lt 0 (size_of (declared_in text) n)

-- the text declares the name without extern
unfoldable pub defines : List ℕ → List ℕ → Bool
defines text n = any_of (defines_at n) (mentions_in text)

-- how many of the texts declare the name, and how many without extern
abbrev pub declaring : List (List ℕ) → List ℕ → ℕ
declaring texts n = count_of (λ t. declares_name t n) texts

abbrev pub defining : List (List ℕ) → List ℕ → ℕ
defining texts n = count_of (λ t. defines t n) texts

-- the texts give each name one size
abbrev pub Agreed : List (List ℕ) → Type 0
Agreed texts =
    (t u n : List ℕ) → t ∈ texts → u ∈ texts → 0 < size_of (declared_in t) n → 0 < size_of (declared_in u) n
    → size_of (declared_in t) n ≡ size_of (declared_in u) n

-- what loads leave standing: no text with a declaration fault, no clash, within the limits
pub record Book (texts : List (List ℕ)) : Type 0 where
  pub faultless : (t : List ℕ) → t ∈ texts → fault_in t ≡ None
  pub agreed : Agreed texts
  pub defined_once : (n : List ℕ) → defining texts n ≤ 1
  pub few : variables (blocks (table texts)) ≤ 256
  pub few_words : length (words texts) ≤ 512
  pub few_calls : length (indirect_calls texts) ≤ 64
  deriving IsProp as Book-prop

abbrev pub row : List (List ℕ) → Cell → ℕ → Bool
row texts c = least (list_of texts) (number (table texts) c)
