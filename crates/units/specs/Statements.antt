-- The words of a statement, by names, and the pointer of an indirect call.
use Rattle.std.specs.Prelude.{ℕ, ◌+◌, List, [], ◌∷◌, ◌++◌, Some, None, Option}
use Rattle.lexemes.specs.Terminals.{Name}
use Rattle.grammar.specs.declared.item.Slot.{Slot}
use Rattle.grammar.specs.declared.item.Slot.TheVariants.{Bare, Result, Parameter}
use Rattle.grammar.specs.Grammar.{Place, Callee, direct, through, Call, Value, address, copy, load, returned, Item, variable, function, assign, store, invoke}
use Rattle.units.specs.Words.{Cell, Named}

abbrev pub slot_number : Slot → ℕ
slot_number Bare = 0
slot_number (Result at) = 1
slot_number (Parameter j) = 1 + j

abbrev pub cell : Place → Cell
cell p = record { name = p.base.bytes; slot = slot_number p.slot }

abbrev pub slot_of : Name → ℕ → Cell
slot_of n k = record { name = n.bytes; slot = k }

abbrev pub address_word : Cell → Name → Named
address_word p a = record { kind = 0; left = p; offset = 0; right = slot_of a 0 }

abbrev pub copy_word : Cell → Cell → Named
copy_word p q = record { kind = 1; left = p; offset = 0; right = q }

abbrev pub load_word : Cell → Cell → ℕ → Named
load_word p q k = record { kind = 2; left = p; offset = k; right = q }

abbrev pub store_word : Cell → ℕ → Cell → Named
store_word p k q = record { kind = 3; left = p; offset = k; right = q }

-- an argument handed over at slot k: copied to the function's, or stored through the pointer
abbrev pub argument_word : Callee → ℕ → Place → Named
argument_word (direct f) k a = copy_word (slot_of f k) (cell a)
argument_word (through p) k a = store_word (cell p) k (cell a)

-- arguments in order, the first at slot k
abbrev pub argument_words : Callee → ℕ → List Place → List Named
argument_words c k [] = []
argument_words c k (a ∷ rest) = argument_word c k a ∷ argument_words c (k + 1) rest

abbrev pub result_word : Cell → Callee → Named
result_word r (direct f) = copy_word r (slot_of f 1)
result_word r (through p) = load_word r (cell p) 1

abbrev pub result_words : Option Place → Callee → List Named
result_words None c = []
result_words (Some r) c = result_word (cell r) c ∷ []

-- the arguments, parameters begin at slot 2, and then the result where it is assigned
abbrev pub call_words : Option Place → Call → List Named
call_words t c = argument_words c.callee 2 c.arguments ++ result_words t c.callee

abbrev pub value_words : Place → Value → List Named
value_words p (address a) = address_word (cell p) a ∷ []
value_words p (copy q) = copy_word (cell p) (cell q) ∷ []
value_words p (load q) = load_word (cell p) (cell q) 0 ∷ []
value_words p (returned c) = call_words (Some p) c

abbrev pub words_of : Item → List Named
words_of (variable e n) = []
words_of (function e n k) = []
words_of (assign p v) = value_words p v
words_of (store p q) = store_word (cell p) 0 (cell q) ∷ []
words_of (invoke c) = call_words None c

-- the pointer of an indirect call
abbrev pub pointer_of : Callee → List Place
pointer_of (direct f) = []
pointer_of (through p) = p ∷ []

abbrev pub value_pointers : Value → List Place
value_pointers (address a) = []
value_pointers (copy q) = []
value_pointers (load q) = []
value_pointers (returned c) = pointer_of c.callee

abbrev pub pointers_of : Item → List Place
pointers_of (variable e n) = []
pointers_of (function e n k) = []
pointers_of (assign p v) = value_pointers v
pointers_of (store p q) = []
pointers_of (invoke c) = pointer_of c.callee
