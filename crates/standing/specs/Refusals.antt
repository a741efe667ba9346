-- Refusals of calls on the standing units: the number of each, and the values that it carries.
use Rattle.std.specs.Prelude.{ℕ, Bool, cond, List, [], ◌∷◌, Some, None, Ok, Err, Option, Result}
use Rattle.lexemes.specs.declared.location.Location.{Location}
use Rattle.grammar.specs.declared.unit.UnitFault.{UnitFault}
use Rattle.grammar.specs.declared.unit.UnitFault.TheVariants.{TooLong, Grammar, Declaration}
use Rattle.standing.specs.declared.refusal.UnitRefusal.{UnitRefusal}
use Rattle.standing.specs.declared.refusal.UnitRefusal.TheVariants.{NoSuchUnit, UnitStands, Text, Clash, TooManyVariables, TooManyWords, TooManyCalls, NothingStands, NoSuchCall}

-- an offset and its line
abbrev pub values_at : Location → List ℕ
values_at l = l.offset ∷ l.line ∷ []

-- each case's number, and the values that it carries
abbrev pub number_and_values : UnitRefusal → ℕ × List ℕ
number_and_values NoSuchUnit = (9, [])
number_and_values UnitStands = (10, [])
number_and_values (Text TooLong) = (11, [])
number_and_values (Text (Grammar l)) = (12, values_at l)
number_and_values (Text (Declaration l)) = (13, values_at l)
number_and_values (Clash l) = (14, values_at l)
number_and_values TooManyVariables = (15, [])
number_and_values TooManyWords = (16, [])
number_and_values TooManyCalls = (17, [])
number_and_values NothingStands = (18, [])
number_and_values NoSuchCall = (24, [])

abbrev pub number_of : UnitRefusal → ℕ
number_of f = (number_and_values f).0

-- a refusal that applies where a test holds
abbrev pub refused_if : Bool → UnitRefusal → Option UnitRefusal
refused_if applies f = cond applies (Some f) None

-- a refusal of the text alone
abbrev pub refused_text : Option UnitFault → Option UnitRefusal
refused_text None = None
refused_text (Some f) = Some (Text f)

-- of several refusals in their order, the first that applies
abbrev pub earliest : List (Option UnitRefusal) → Option UnitRefusal
earliest [] = None
earliest (None ∷ others) = earliest others
earliest (Some f ∷ others) = Some f

-- refused for the reason that applies, or else done
abbrev pub done_or : Option UnitRefusal → Result (Unit {0}) UnitRefusal
done_or None = Ok tt
done_or (Some f) = Err f
