-- Refusals: the number of each, the values that it carries, and the first that applies.
use Rattle.std.specs.Prelude.{ℕ, Bool, cond, List, [], ◌∷◌, Some, None, Ok, Err, Option, Result}
use Rattle.lexemes.specs.declared.location.Location.{Location}
use Rattle.grammar.specs.declared.unit.UnitFault.{UnitFault}
use Rattle.grammar.specs.declared.unit.UnitFault.TheVariants.{TooLong, Grammar, Declaration}
use Rattle.analyser.specs.declared.refusal.Refusal.{Refusal}
use Rattle.analyser.specs.declared.refusal.Refusal.TheVariants.{NoSuchUnit, UnitStands, Text, NothingStands}

-- an offset and its line
abbrev pub values_at : Location → List ℕ
values_at l = l.offset ∷ l.line ∷ []

-- each case's number, and the values that it carries
abbrev pub number_and_values : Refusal → ℕ × List ℕ
number_and_values NoSuchUnit = (9, [])
number_and_values UnitStands = (10, [])
number_and_values (Text TooLong) = (11, [])
number_and_values (Text (Grammar l)) = (12, values_at l)
number_and_values (Text (Declaration l)) = (13, values_at l)
number_and_values NothingStands = (18, [])

abbrev pub number_of : Refusal → ℕ
number_of f = (number_and_values f).0

-- a refusal that applies where a test holds
abbrev pub refused_if : Bool → Refusal → Option Refusal
refused_if applies f = cond applies (Some f) None

-- the text's own fault, if a check of the text alone gives one
abbrev pub refused_text : Result (Prim.Unit {0}) UnitFault → Option Refusal
refused_text (Ok _) = None
refused_text (Err f) = Some (Text f)

-- of several refusals in their order, the first that applies
abbrev pub first_of : List (Option Refusal) → Option Refusal
first_of [] = None
first_of (None ∷ others) = first_of others
first_of (Some f ∷ others) = Some f

-- refused for the reason that applies, or else answered
abbrev pub refused_or : {A : Type 0} → Option Refusal → A → Result A Refusal
refused_or None answer = Ok answer
refused_or (Some f) answer = Err f
