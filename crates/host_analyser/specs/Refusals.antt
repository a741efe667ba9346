-- Refusals: the number of each, and the values that it carries.
use Rattle.std.specs.Prelude.{ℕ, List, [], ◌∷◌}
use Rattle.engine.specs.Faults.{refusal as engine_refusal}
use Rattle.standing.specs.Refusals.{number_and_values as of_units}
use Rattle.host_analyser.specs.declared.refusal.Refusal.{Refusal}
use Rattle.host_analyser.specs.declared.refusal.Refusal.TheVariants.{Unit as OfUnit, SettledAlready, NoRoom, NotSettled, NoPlace, Unknown, BufferTooShort}

abbrev pub number_and_values : Refusal → ℕ × List ℕ
number_and_values (OfUnit f) = of_units f
number_and_values SettledAlready = (19, [])
number_and_values (NoRoom f) = (20, f.unit ∷ f.line ∷ (engine_refusal f.fault).1)
number_and_values NotSettled = (21, [])
number_and_values NoPlace = (22, [])
number_and_values Unknown = (23, [])
number_and_values BufferTooShort = (25, [])

abbrev pub number_of : Refusal → ℕ
number_of f = (number_and_values f).0
