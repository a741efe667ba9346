-- A refused load or unload leaves the analyser as it stood.
use Rattle.std.proofs.Common.{◌≡◌, ℕ, List, map, set, Some, None, Err, Option, Result, sym, ap, ◌∙◌, subst}
use Rattle.engine.specs.Meanings.{Meaning}
use Rattle.books.specs.Books.{standing, list_of, table, Book as Lawful}
use Rattle.standing.specs.declared.list.UnitList.{UnitList}
use Rattle.standing.specs.declared.refusal.UnitRefusal.{UnitRefusal}
use Rattle.standing.specs.declared.standing_units.StandingUnits.{StandingUnits}
use Rattle.standing.specs.Loads.{load_refusal, unload_refusal, load_units, unload_units, unless}
use Rattle.standing.specs.Lists.{owners_in}
use Rattle.standing.specs.Refusals.{done_or}
use Rattle.standing.specs.States.{units_of, LaidOut, owned_name, name_in_entry}
use Rattle.host_analyser.specs.InStep.{SettledRight}

pub refused_reply : (o : Option UnitRefusal) (f : UnitRefusal) → ◌≡◌ {A = Result (Unit {0}) UnitRefusal} (Err f) (done_or o) → o ≡ Some f
refused_reply None f e = cc e
refused_reply (Some g) f e = cc e

pub load_refused : (old new : StandingUnits) (u : ℕ) (t : List ℕ) (f : UnitRefusal) → load_refusal (units_of old) u t ≡ Some f
    → units_of new ≡ load_units (units_of old) u t → units_of new ≡ units_of old
load_refused old new u t f e after = after ∙ ap (λ o. unless o (set (units_of old) u (Some t)) (units_of old)) e

pub unload_refused : (old new : StandingUnits) (u : ℕ) (f : UnitRefusal) → unload_refusal (units_of old) u ≡ Some f
    → units_of new ≡ unload_units (units_of old) u → units_of new ≡ units_of old
unload_refused old new u f e after = after ∙ ap (λ o. unless o (set (units_of old) u None) (units_of old)) e

-- the same units, laid out as before
pub still_right : (m : Meaning) (old new : StandingUnits) (list : UnitList) → units_of new ≡ units_of old → (LaidOut old → LaidOut new)
    → SettledRight m old list → SettledRight m new list
still_right m old new list same laid right =
    record {
      holds = right.holds ∙ ap (λ us. list_of (standing us)) (sym same);
      settled = right.settled;
      lawful = subst (λ us. Lawful (standing us)) (sym same) right.lawful;
      laid = laid right.laid;
      listed = right.listed ∙ ap (λ us. list_of (standing us)) (sym same);
      owned = subst (λ us. map (owned_name us) (owners_in list) ≡ map name_in_entry (table (standing us))) (sym same) right.owned;
    }
