-- The names of a text in order, what they declare, and the earliest that shows a fault.
use Rattle.std.specs.Prelude.{ℕ, suc, ◌+◌, Bool, cond, ◌&&◌, List, [], ◌∷◌, ◌++◌, map, length, Some, None, Option, ◌==◌, nat_lt}
use Rattle.std.specs.List.{flat_map}
use Rattle.std.specs.Str.{bytes_eq}
use Rattle.lexemes.specs.Terminals.{Name}
use Rattle.grammar.specs.declared.item.Linkage.{Linkage}
use Rattle.grammar.specs.declared.item.Slot.{Slot}
use Rattle.grammar.specs.declared.item.Slot.TheVariants.{Bare, Result, Parameter}
use Rattle.grammar.specs.Grammar.{Place, Callee, direct, through, Call, Value, address, copy, load, returned, Item, variable, function, assign, store, invoke}
use Rattle.grammar.specs.Parse.{Statement}
use Rattle.grammar.specs.Units.{statements_in}

-- a name, and how many slots follow its own cell: none for a variable, n + 1 for a function with n parameters
pub record Entry : Type 0 where
  pub name : List ℕ
  pub slots : ℕ

-- the length of the name's block, 0 where the name is not declared
abbrev pub size_of : List Entry → List ℕ → ℕ
size_of [] n = 0
size_of (e ∷ es) n = cond (bytes_eq e.name n) (suc e.slots) (size_of es n)

-- a name of a text: declared, with so many slots; used as a place; or called with so many arguments
pub data Mention : Type 0 where
  declares : Linkage → Name → ℕ → Mention
  uses : Place → Mention
  calls : Name → ℕ → Mention

abbrev pub callee_mention : Callee → ℕ → Mention
callee_mention (direct f) k = calls f k
callee_mention (through p) k = uses p

abbrev pub call_mentions : Call → List Mention
call_mentions c = callee_mention c.callee (length c.arguments) ∷ map uses c.arguments

abbrev pub value_mentions : Value → List Mention
value_mentions (address a) = uses (record { base = a; slot = Bare }) ∷ []
value_mentions (copy q) = uses q ∷ []
value_mentions (load q) = uses q ∷ []
value_mentions (returned c) = call_mentions c

abbrev pub mentions : Item → List Mention
mentions (variable e n) = declares e n 0 ∷ []
mentions (function e n k) = declares e n (k + 1) ∷ []
mentions (assign p v) = uses p ∷ value_mentions v
mentions (store p q) = uses p ∷ uses q ∷ []
mentions (invoke c) = call_mentions c

abbrev pub entry : Mention → List Entry
entry (declares e n k) = record { name = n.bytes; slots = k } ∷ []
entry (uses p) = []
entry (calls f k) = []

-- the mention, if it declares
abbrev pub kept : Mention → List Mention
kept (declares e n k) = declares e n k ∷ []
kept (uses p) = []
kept (calls f k) = []

-- the block of this length has the slot
abbrev pub has_slot : Slot → ℕ → Bool
has_slot Bare size = nat_lt 0 size
has_slot (Result at) size = nat_lt 1 size
has_slot (Parameter j) size = nat_lt 0 j && nat_lt (1 + j) size

-- the name is right after the declarations es
abbrev pub right : List Entry → Mention → Bool
right es (declares e n k) = size_of es n.bytes == 0
right es (uses p) = has_slot p.slot (size_of es p.base.bytes)
right es (calls f k) = size_of es f.bytes == k + 2

abbrev pub name_in : Mention → Name
name_in (declares e n k) = n
name_in (uses p) = p.base
name_in (calls f k) = f

abbrev pub offset_of : Mention → ℕ
offset_of m = (name_in m).at

-- the offset of the earliest name that shows a fault, after the declarations es
abbrev pub fault_after : List Entry → List Mention → Option ℕ
fault_after es [] = None
fault_after es (m ∷ ms) = cond (right es m) (fault_after (es ++ entry m) ms) (Some (offset_of m))

abbrev pub mentions_at : Statement → List Mention
mentions_at s = mentions s.item

-- the names of a text, in order; none where it is refused
unfoldable pub mentions_in : List ℕ → List Mention
mentions_in text = flat_map mentions_at (statements_in text)

abbrev pub declared_in : List ℕ → List Entry
declared_in text = flat_map entry (mentions_in text)

-- refusal 13: the earliest name that shows a fault
abbrev pub fault_in : List ℕ → Option ℕ
fault_in text = fault_after [] (mentions_in text)

-- the declarations of a text, in order
abbrev pub declarations_in : List ℕ → List Mention
declarations_in text = flat_map kept (mentions_in text)
