-- A text has no more mentions than bytes.
use Rattle.std.proofs.Common.{◌≡◌, ℕ, zero, suc, ◌+◌, ◌≤◌, List, [], ◌∷◌, map, length, Some, None, Ok, Option, refl, ap, arith}
use Rattle.std.specs.List.{flat_map}
use Rattle.std.proofs.lemmas.List.{length-append, length-map}
use Rattle.lexemes.specs.declared.class.Class.{Class}
use Rattle.lexemes.specs.declared.class.Class.TheVariants.{Blank, Letter, Digit, Sign, Other}
use Rattle.lexemes.specs.Classes.{class_of}
use Rattle.lexemes.specs.declared.lexeme.Sign.TheVariants.{Equals, Open, Close, Semicolon}
use Rattle.lexemes.specs.declared.lexeme.Word.TheVariants.{Var, Fun}
use Rattle.lexemes.specs.Terminals.{Terminal, sign, word, name, number, Piece}
use Rattle.lexemes.specs.Lexemes.{word_at, number_at, sign_at, run, found, begun, pieces}
use Rattle.grammar.specs.declared.item.Linkage.{Linkage}
use Rattle.grammar.specs.declared.item.Linkage.TheVariants.{Defined, External}
use Rattle.grammar.specs.declared.item.Slot.{Slot}
use Rattle.grammar.specs.declared.item.Slot.TheVariants.{Bare, Result, Parameter}
use Rattle.grammar.specs.Grammar.{Place, Callee, direct, through, Call, Value, address, copy, load, returned, Item, variable, function, assign, store, invoke, slot, place, others, arguments, callee, call, value, linkage, item, unit}
use Rattle.grammar.specs.Faults.{Spells, none, one}
use Rattle.grammar.specs.Parse.{Statement, item_of}
use Rattle.grammar.specs.Units.{read, outcome, statements_in}
use Rattle.grammar.proofs.Units.{checked}
use Rattle.grammar.proofs.Reading.{read_whole}
use Rattle.declarations.specs.Declarations.{uses, call_mentions, value_mentions, mentions, mentions_at, mentions_in}

found_few : (at n : ℕ) (l : Option Terminal) (rest : List Piece) → length rest ≤ n → length (found at l rest) ≤ suc n
found_few at n (Some l) rest h = omega arith
found_few at n None rest h = omega arith

begun_few : (k : Class) (at b n : ℕ) (bs : List ℕ) (rest : ℕ → List Piece) → ((j : ℕ) → length (rest j) ≤ n) → length (begun k at b bs rest) ≤ suc n
begun_few Blank at b n bs rest h = omega (arith, h 0)
begun_few Letter at b n bs rest h = found_few at n (word_at at b bs) (rest (run bs)) (h (run bs))
begun_few Digit at b n bs rest h = found_few at n (number_at b bs) (rest 0) (h 0)
begun_few Sign at b n bs rest h = found_few at n (sign_at b) (rest 0) (h 0)
begun_few Other at b n bs rest h = omega arith

pieces_few : (at busy : ℕ) (bs : List ℕ) → length (pieces at busy bs) ≤ length bs
pieces_few at busy [] = omega arith
pieces_few at zero (b ∷ bs) = begun_few (class_of b) at b (length bs) bs (λ k. pieces (at + 1) k bs) (λ k. pieces_few (at + 1) k bs)
pieces_few at (suc busy) (b ∷ bs) = omega (arith, pieces_few (at + 1) busy bs)

spelled_length : {ps : List Piece} {ls : List Terminal} → Spells ps ls → length ls ≡ length ps
spelled_length none = refl
spelled_length (one s) = ap suc (spelled_length s)

-- each name is a lexeme of its own
slot_longer : (s : Slot) (rest : List Terminal) → length rest ≤ length (slot s rest)
slot_longer Bare rest = omega arith
slot_longer (Result at) rest = omega arith
slot_longer (Parameter k) rest = omega arith

others_longer : (ps : List Place) (rest : List Terminal) → length ps + length rest ≤ length (others ps rest)
others_longer [] rest = omega arith
others_longer (p ∷ ps) rest = omega (arith, others_longer ps rest, slot_longer p.slot (others ps rest))

arguments_longer : (ps : List Place) (rest : List Terminal) → length ps + length rest ≤ length (arguments ps rest)
arguments_longer [] rest = omega arith
arguments_longer (p ∷ ps) rest = omega (arith, others_longer ps rest, slot_longer p.slot (others ps rest))

callee_longer : (c : Callee) (rest : List Terminal) → suc (length rest) ≤ length (callee c rest)
callee_longer (direct f) rest = omega arith
callee_longer (through p) rest = omega (arith, slot_longer p.slot (sign Close ∷ rest))

call_longer : (c : Call) (rest : List Terminal) → length (call_mentions c) + length rest ≤ length (call c rest)
call_longer c rest =
    omega (
      arith,
      length-map c.arguments uses,
      arguments_longer c.arguments (sign Close ∷ rest),
      callee_longer c.callee (sign Open ∷ arguments c.arguments (sign Close ∷ rest)),
    )

value_longer : (v : Value) (rest : List Terminal) → length (value_mentions v) + length rest ≤ length (value v rest)
value_longer (address a) rest = omega arith
value_longer (copy p) rest = omega (arith, slot_longer p.slot rest)
value_longer (load p) rest = omega (arith, slot_longer p.slot rest)
value_longer (returned c) rest = call_longer c rest

linkage_longer : (e : Linkage) (rest : List Terminal) → length rest ≤ length (linkage e rest)
linkage_longer Defined rest = omega arith
linkage_longer External rest = omega arith

item_longer : (i : Item) (rest : List Terminal) → length (mentions i) + length rest ≤ length (item i rest)
item_longer (variable e n) rest = omega (arith, linkage_longer e (word Var ∷ name n ∷ sign Semicolon ∷ rest))
item_longer (function e n k) rest = omega (arith, linkage_longer e (word Fun ∷ name n ∷ number k ∷ sign Semicolon ∷ rest))
item_longer (assign p v) rest =
    omega (arith, slot_longer p.slot (sign Equals ∷ value v (sign Semicolon ∷ rest)), value_longer v (sign Semicolon ∷ rest))
item_longer (store p q) rest =
    omega (arith, slot_longer p.slot (sign Equals ∷ place q (sign Semicolon ∷ rest)), slot_longer q.slot (sign Semicolon ∷ rest))
item_longer (invoke c) rest = omega (arith, call_longer c (sign Semicolon ∷ rest))

unit_longer : (ss : List Statement) → length (flat_map mentions_at ss) ≤ length (unit (map item_of ss) [])
unit_longer [] = omega arith
unit_longer (s ∷ ss) =
    omega (arith, length-append (mentions_at s) (flat_map mentions_at ss), unit_longer ss, item_longer s.item (unit (map item_of ss) []))

pub few_mentions : (text : List ℕ) → Ok tt ≡ outcome (read text) → length (mentions_in text) ≤ length text
unfolding mentions_in
few_mentions text ok =
    let (legal, spells) = checked text (Ok (statements_in text)) (read_whole text ok).whole in
    omega (arith, unit_longer (statements_in text), spelled_length spells, pieces_few 0 0 text)
