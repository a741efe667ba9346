-- What comes of handing a list to an engine and settling it.
use Rattle.std.specs.Prelude.{◌≡◌, ℕ, true, false, List, Some, None, Ok, Err, Result, slice_index_or}
use Rattle.std.specs.List.{slice_get}
use Rattle.constraints.specs.Constraint.{System}
use Rattle.lexemes.specs.Lines.{line_of}
use Rattle.units.specs.declared.listing.ListedWord.{ListedWord}
use Rattle.engine.specs.declared.fault.EngineFault.{EngineFault}
use Rattle.engine.specs.declared.fault.EngineFault.TheVariants.{NoRoom}
use Rattle.engine.specs.declared.fault.Overflow.{Overflow}
use Rattle.engine.specs.Meanings.{Meaning, Overflows, gathering, settling}
use Rattle.books.specs.Books.{Units}
use Rattle.host_analyser.specs.declared.refusal.RoomFault.{RoomFault}

-- the fault is carried whole, with the unit and the line of the statement whose word it names
abbrev pub Locates : Units → List ListedWord → EngineFault → RoomFault → Type 0
Locates units listed fault r =
    (o : Overflow) (w : ListedWord) (t : List ℕ) → fault ≡ NoRoom o → slice_get listed o.position ≡ Some w → slice_index_or units w.unit None ≡ Some t
    → r ≡ record { unit = w.unit; line = line_of t w.at; fault = fault }

-- the engine settles exactly if the list fits; else the refusal names a statement
abbrev pub HandsDown : Meaning → Meaning → System → Units → List ListedWord → Result (Unit {0}) RoomFault → Type 0
HandsDown m n sys units listed (Ok _) = (m.rule.fits sys ≡ true) × (n ≡ settling (gathering m sys))
HandsDown m n sys units listed (Err r) =
    (m.rule.fits sys ≡ false) × (n.rule ≡ m.rule) × (o : Overflow) × Overflows m.rule sys o × Locates units listed (NoRoom o) r
