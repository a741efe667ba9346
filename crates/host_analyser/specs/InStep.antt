-- What ties an analyser to its engine.
use Rattle.std.specs.Prelude.{◌≡◌, true, map}
use Rattle.engine.specs.Meanings.{Meaning}
use Rattle.books.specs.Books.{standing, list_of, table, Book as Lawful}
use Rattle.standing.specs.declared.list.UnitList.{UnitList}
use Rattle.standing.specs.declared.standing_units.StandingUnits.{StandingUnits}
use Rattle.standing.specs.Lists.{list_in, owners_in}
use Rattle.standing.specs.States.{units_of, LaidOut, owned_name, name_in_entry}

-- a settled analyser's engine holds exactly its list, the list is laid out as it stands, and the texts keep the rules
pub record SettledRight (m : Meaning) (units : StandingUnits) (list : UnitList) : Type 0 where
  pub holds : m.system ≡ list_of (standing (units_of units))
  pub settled : m.settled ≡ true
  pub lawful : Lawful (standing (units_of units))
  pub laid : LaidOut units
  pub listed : list_in list ≡ list_of (standing (units_of units))
  pub owned : map (owned_name (units_of units)) (owners_in list) ≡ map name_in_entry (table (standing (units_of units)))
  deriving IsProp as SettledRight-prop
