-- Lone texts: what reading one gives, and why it is refused. Assumes nothing.
use Rattle.std.specs.Prelude.{◌≡◌, ℕ, ◌<◌, ◌≤◌, cond, List, [], ◌∷◌, map, length, Some, None, Ok, Err, Option, Result, nat_lt}
use Rattle.lexemes.specs.declared.location.Location.{Location}
use Rattle.lexemes.specs.Lines.{located}
use Rattle.grammar.specs.declared.unit.UnitFault.{UnitFault}
use Rattle.grammar.specs.declared.unit.UnitFault.TheVariants.{TooLong, Grammar, Declaration}
use Rattle.grammar.specs.declared.state.Found.{Found}
use Rattle.grammar.specs.Grammar.{Item}
use Rattle.grammar.specs.Parse.{Statement, item_of, with}
use Rattle.grammar.specs.Meanings.{statements_from, statement_in}

-- a refusal's number, and where in the text it lies
pub record Refusal : Type 0 where
  pub number : ℕ
  pub location : Option Location

abbrev pub refusal : UnitFault → Refusal
refusal TooLong = record { number = 11; location = None }
refusal (Grammar l) = record { number = 12; location = Some l }
refusal (Declaration l) = record { number = 13; location = Some l }

abbrev pub graded : List ℕ → Result (List Statement) ℕ → Result (List Statement) UnitFault
graded text (Ok ss) = Ok ss
graded text (Err off) = Err (Grammar (located text off))

-- what reading a text gives: its statements; 11, it has over 4,096 bytes; 12, the grammar does not admit it
unfoldable pub read : List ℕ → Result (List Statement) UnitFault
read text = cond (nat_lt 4096 (length text)) (Err TooLong) (graded text (statements_from text 0))

abbrev pub outcome : {X : Type 0} → Result X UnitFault → Result (Prim.Unit {0}) UnitFault
outcome (Ok x) = Ok tt
outcome (Err f) = Err f

abbrev pub or_none : {F : Type 0} → Result (List Statement) F → List Statement
or_none (Ok ss) = ss
or_none (Err f) = []

-- the statements of a text, none where it is refused
abbrev pub statements_in : List ℕ → List Statement
statements_in text = or_none (read text)

abbrev pub unit_in : List ℕ → List Item
unit_in text = map item_of (statements_in text)

-- what is left of the statements from an offset on begins with the one that was found
abbrev pub NextOf : List ℕ → ℕ → Option Found → Type 0
NextOf text at None = (ss : List Statement) → statements_from text at ≡ Ok ss → ss ≡ []
NextOf text at (Some f) =
    (ss : List Statement) → statements_from text at ≡ Ok ss →
    (rest : List Statement) × (ss ≡ statement_in text f ∷ rest) × (statements_from text f.end ≡ Ok rest) × (at < f.end) × (f.end ≤ length text)

-- an item was found at an offset, or the text ends there or has a fault
abbrev pub ItemAt : List ℕ → ℕ → Option Found → Type 0
ItemAt text at None = (ss : List Statement) → statements_from text at ≡ Ok ss → ss ≡ []
ItemAt text at (Some f) = (statements_from text at ≡ with (statement_in text f) (statements_from text f.end)) × (at < f.end) × (f.end ≤ length text)
