-- The grammar of unit texts: units, and the lexemes that each is written with. Assumes nothing.
--   unit  = { item }
--   item  = [ "extern" ] ( "var" name | "fun" name number ) ";"
--         | place "=" value ";" | "*" place "=" place ";" | call ";"
--   value = "&" name | place | "*" place | call
--   call  = ( name | "(" "*" place ")" ) "(" [ place { "," place } ] ")"      with at most six arguments
--   place = name [ "." ( "r" | number ) ]
use Rattle.std.specs.Prelude.{◌≡◌, ℕ, ◌≤◌, List, [], ◌∷◌, ◌++◌, length}
use Rattle.std.specs.List.{AllByRecursion}
use Rattle.lexemes.specs.declared.lexeme.Sign.TheVariants.{Equals, Ampersand, Star, Open, Close, Comma, Semicolon, Stop}
use Rattle.lexemes.specs.declared.lexeme.Word.TheVariants.{Var, Fun, Extern}
use Rattle.lexemes.specs.Terminals.{Name, Terminal, sign, word, name, number}
use Rattle.lexemes.specs.Lexemes.{Lexical}
use Rattle.grammar.specs.declared.item.Linkage.{Linkage}
use Rattle.grammar.specs.declared.item.Linkage.TheVariants.{Defined, External}
use Rattle.grammar.specs.declared.item.Slot.{Slot}
use Rattle.grammar.specs.declared.item.Slot.TheVariants.{Bare, Result, Parameter}

pub record Place : Type 0 where
  pub base : Name
  pub slot : Slot

pub data Callee : Type 0 where
  direct : Name → Callee
  through : Place → Callee

pub record Call : Type 0 where
  pub callee : Callee
  pub arguments : List Place

pub data Value : Type 0 where
  address : Name → Value
  copy : Place → Value
  load : Place → Value
  returned : Call → Value

pub data Item : Type 0 where
  variable : Linkage → Name → Item
  function : Linkage → Name → ℕ → Item
  assign : Place → Value → Item
  store : Place → Place → Item
  invoke : Call → Item

-- Each of these puts the lexemes of a part before those that follow it.
abbrev pub slot : Slot → List Terminal → List Terminal
slot Bare rest = rest
slot (Result at) rest = sign Stop ∷ name (record { at = at; bytes = 114 ∷ [] }) ∷ rest
slot (Parameter n) rest = sign Stop ∷ number n ∷ rest

abbrev pub place : Place → List Terminal → List Terminal
place p rest = name p.base ∷ slot p.slot rest

abbrev pub others : List Place → List Terminal → List Terminal
others [] rest = rest
others (p ∷ ps) rest = sign Comma ∷ place p (others ps rest)

abbrev pub arguments : List Place → List Terminal → List Terminal
arguments [] rest = rest
arguments (p ∷ ps) rest = place p (others ps rest)

abbrev pub callee : Callee → List Terminal → List Terminal
callee (direct n) rest = name n ∷ rest
callee (through p) rest = sign Open ∷ sign Star ∷ place p (sign Close ∷ rest)

abbrev pub call : Call → List Terminal → List Terminal
call c rest = callee c.callee (sign Open ∷ arguments c.arguments (sign Close ∷ rest))

abbrev pub value : Value → List Terminal → List Terminal
value (address n) rest = sign Ampersand ∷ name n ∷ rest
value (copy p) rest = place p rest
value (load p) rest = sign Star ∷ place p rest
value (returned c) rest = call c rest

abbrev pub linkage : Linkage → List Terminal → List Terminal
linkage External rest = word Extern ∷ rest
linkage Defined rest = rest

-- an item up to its semicolon
abbrev pub body : Item → List Terminal → List Terminal
body (variable e n) rest = linkage e (word Var ∷ name n ∷ rest)
body (function e n k) rest = linkage e (word Fun ∷ name n ∷ number k ∷ rest)
body (assign p v) rest = place p (sign Equals ∷ value v rest)
body (store p q) rest = sign Star ∷ place p (sign Equals ∷ place q rest)
body (invoke c) rest = call c rest

abbrev pub item : Item → List Terminal → List Terminal
item i rest = body i (sign Semicolon ∷ rest)

abbrev pub unit : List Item → List Terminal → List Terminal
unit [] rest = rest
unit (i ∷ is) rest = item i (unit is rest)

-- at most six arguments to a call
abbrev pub FewIn : Value → Type 0
FewIn (address n) = Unit {0}
FewIn (copy p) = Unit {0}
FewIn (load p) = Unit {0}
FewIn (returned c) = length c.arguments ≤ 6

abbrev pub Few : Item → Type 0
Few (variable e n) = Unit {0}
Few (function e n k) = Unit {0}
Few (assign p v) = FewIn v
Few (store p q) = Unit {0}
Few (invoke c) = length c.arguments ≤ 6

abbrev pub Legal : List Item → Type 0
Legal [] = Unit {0}
Legal (i ∷ is) = Few i × Legal is

-- ls are the lexemes of a unit that a text can have; ls begin such lexemes
abbrev pub Admitted : List Terminal → Type 0
Admitted ls = (u : List Item) × Legal u × (unit u [] ≡ ls) × AllByRecursion Lexical ls

abbrev pub Begins : List Terminal → Type 0
Begins ls = (rest : List Terminal) × Admitted (ls ++ rest)
