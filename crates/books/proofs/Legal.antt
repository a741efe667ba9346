-- A text's unit is one of the grammar; its names have 1 to 24 bytes and its functions at most six parameters.
use Rattle.std.proofs.Common.{◌≡◌, ℕ, ◌<◌, ◌≤◌, Bool, true, false, cond, ◌&&◌, ltb, leb, List, [], ◌∷◌, map, length, Ok, Err, Result as Outcome, refl, arith}
use Rattle.std.specs.List.{flat_map, AllByRecursion}
use Rattle.std.proofs.ByRecursion.{All-append}
use Rattle.std.proofs.lemmas.Bool.{and_parts, leb-true, false≢true}
use Rattle.lexemes.specs.Terminals.{Terminal, word, name, number}
use Rattle.lexemes.specs.Classes.{is_letter}
use Rattle.lexemes.specs.Lexemes.{Lexical, is_name, all_in_name, is_free, reserved}
use Rattle.lexemes.proofs.Lexical.{text_lexical}
use Rattle.grammar.specs.declared.unit.UnitFault.TheVariants.{TooLong}
use Rattle.grammar.specs.declared.item.Linkage.{Linkage}
use Rattle.grammar.specs.declared.item.Linkage.TheVariants.{Defined, External}
use Rattle.grammar.specs.declared.item.Slot.{Slot}
use Rattle.grammar.specs.declared.item.Slot.TheVariants.{Bare, Result, Parameter}
use Rattle.grammar.specs.Grammar as grammar
use Rattle.grammar.specs.Grammar.{Place, Callee, direct, through, Call, Value, address, copy, load, returned, Item, variable, function, assign, store, invoke, Legal}
use Rattle.grammar.specs.Parse.{Statement, item_of}
use Rattle.grammar.specs.Meanings.{statements_from}
use Rattle.grammar.specs.Units.{graded, read, or_none, unit_in}
use Rattle.grammar.proofs.Recognises.{spells_lexical}
use Rattle.grammar.proofs.Units.{checked}
use Rattle.declarations.specs.Declarations.{Mention, declares, uses, calls, mentions, call_mentions, value_mentions, entry, mentions_at, mentions_in, declared_in}
use Rattle.books.specs.Counts.{Short, DeclaredNamesAreShort}

abbrev L : List Terminal → Type 0
L = AllByRecursion Lexical

-- what follows a part of an item
past_slot : (s : Slot) (rest : List Terminal) → L (grammar.slot s rest) → L rest
past_slot Bare rest all = all
past_slot (Result at) rest (_, (_, all)) = all
past_slot (Parameter j) rest (_, (_, all)) = all

past_place : (p : Place) (rest : List Terminal) → L (grammar.place p rest) → L rest
past_place p rest (_, all) = past_slot p.slot rest all

past_others : (ps : List Place) (rest : List Terminal) → L (grammar.others ps rest) → L rest
past_others [] rest all = all
past_others (p ∷ ps) rest (_, all) = past_others ps rest (past_place p (grammar.others ps rest) all)

past_arguments : (ps : List Place) (rest : List Terminal) → L (grammar.arguments ps rest) → L rest
past_arguments [] rest all = all
past_arguments (p ∷ ps) rest all = past_others ps rest (past_place p (grammar.others ps rest) all)

past_callee : (c : Callee) (rest : List Terminal) → L (grammar.callee c rest) → L rest
past_callee (direct f) rest (_, all) = all
past_callee (through p) rest (_, (_, all)) = (past_place p _ all).1

past_call : (c : Call) (rest : List Terminal) → L (grammar.call c rest) → L rest
past_call c rest all = (past_arguments c.arguments _ (past_callee c.callee _ all).1).1

past_value : (v : Value) (rest : List Terminal) → L (grammar.value v rest) → L rest
past_value (address a) rest (_, (_, all)) = all
past_value (copy q) rest all = past_place q rest all
past_value (load q) rest (_, all) = past_place q rest all
past_value (returned c) rest all = past_call c rest all

past_linkage : (e : Linkage) (rest : List Terminal) → L (grammar.linkage e rest) → L rest
past_linkage External rest (_, all) = all
past_linkage Defined rest all = all

abbrev ShortMention : Mention → Type 0
ShortMention (declares e n k) = (0 < length n.bytes) × (length n.bytes ≤ 24) × (k ≤ 7)
ShortMention (uses p) = Unit {0}
ShortMention (calls f k) = Unit {0}

-- a name has 1 to 24 bytes
short_name : (bs : List ℕ) → is_name bs ≡ true → (0 < length bs) × (length bs ≤ 24)
short_name [] e = absurd (false≢true e)
short_name (b ∷ bs) e =
    let (_, inside) = and_parts (is_letter b) (all_in_name bs && (leb (length bs) 23 && is_free (reserved (b ∷ bs)))) e in
    let (_, rest) = and_parts (all_in_name bs) (leb (length bs) 23 && is_free (reserved (b ∷ bs))) inside in
    let (few, _) = and_parts (leb (length bs) 23) (is_free (reserved (b ∷ bs))) rest in
    (omega arith, omega (arith, leb-true (length bs) 23 few))

short_uses : (ps : List Place) → AllByRecursion ShortMention (map uses ps)
short_uses [] = tt
short_uses (p ∷ ps) = (tt, short_uses ps)

short_call : (callee : Callee) (given : List Place) → AllByRecursion ShortMention (call_mentions (record { callee = callee; arguments = given }))
short_call (direct f) given = (tt, short_uses given)
short_call (through p) given = (tt, short_uses given)

short_value : (v : Value) → AllByRecursion ShortMention (value_mentions v)
short_value (address a) = (tt, tt)
short_value (copy q) = (tt, tt)
short_value (load q) = (tt, tt)
short_value (returned c) = short_call c.callee c.arguments

short_item : (i : Item) (rest : List Terminal) → L (grammar.body i rest) → AllByRecursion ShortMention (mentions i) × L rest
short_item (variable e n) rest all =
    let (_, (named, more)) = past_linkage e (word _ ∷ name n ∷ rest) all in
    let (some, few) = short_name n.bytes named in
    (((some, few, omega arith), tt), more)
short_item (function e n k) rest all =
    let (_, (named, (small, more))) = past_linkage e (word _ ∷ name n ∷ number k ∷ rest) all in
    let (some, few) = short_name n.bytes named in
    (((some, few, omega arith), tt), more)
short_item (assign p v) rest all = ((tt, short_value v), past_value v rest (past_place p _ all).1)
short_item (store p q) rest (_, all) = ((tt, (tt, tt)), past_place q rest (past_place p _ all).1)
short_item (invoke c) rest all = (short_call c.callee c.arguments, past_call c rest all)

short_statements : (ss : List Statement) → L (grammar.unit (map item_of ss) []) → AllByRecursion ShortMention (flat_map mentions_at ss)
short_statements [] all = tt
short_statements (s ∷ ss) all =
    let (here, later) = short_item s.item _ all in All-append ShortMention (mentions_at s) (flat_map mentions_at ss) here (short_statements ss later.1)

short_entries : (ms : List Mention) → AllByRecursion ShortMention ms → AllByRecursion Short (flat_map entry ms)
short_entries [] all = tt
short_entries (declares e n k ∷ ms) (small, all) = (small, short_entries ms all)
short_entries (uses p ∷ ms) (_, all) = short_entries ms all
short_entries (calls f k ∷ ms) (_, all) = short_entries ms all

abbrev Right : List Statement → Type 0
Right ss = Legal (map item_of ss) × AllByRecursion Short (flat_map entry (flat_map mentions_at ss))

pub text_legal : (text : List ℕ) → Legal (unit_in text) × AllByRecursion Short (declared_in text)
unfolding read mentions_in
text_legal text = go (ltb 4096 (length text)) (statements_from text 0) refl
  where
    go : (b : Bool) (r : Outcome (List Statement) ℕ) → statements_from text 0 ≡ r → Right (or_none (cond b (Err TooLong) (graded text r)))
    go true r e = (tt, tt)
    go false (Ok ss) e =
        let (legal, spells) = checked text (Ok ss) e in
        (legal, short_entries (flat_map mentions_at ss) (short_statements ss (spells_lexical spells (text_lexical text 0))))
    go false (Err off) e = (tt, tt)

pub names_are_short : DeclaredNamesAreShort
names_are_short text = (text_legal text).1
