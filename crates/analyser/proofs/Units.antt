-- Texts in the places of an analyser.
use Rattle.std.proofs.Common.{◌≡◌, ℕ, ◌≤◌, List, map, length, set, Ok, Err, Option, Result, refl, ap, ◌∙◌}
use Rattle.std.proofs.lemmas.List.{map-set}
use Rattle.grammar.specs.declared.unit.UnitFault.{UnitFault}
use Rattle.grammar.specs.Units.{read, outcome}
use Rattle.grammar.proofs.Reading.{read_whole}
use Rattle.declarations.specs.Declarations.{fault_in}
use Rattle.declarations.specs.Verdicts.{ruled, both, unit_verdict}
use Rattle.analyser.specs.declared.place.Place.{Place}
use Rattle.analyser.specs.States.{standing_text}

pub set_place : (places : List Place) (u : ℕ) (p : Place) (t : Option (List ℕ)) → standing_text p ≡ t → map standing_text (set places u p) ≡ set (map standing_text places) u t
set_place places u p t e = map-set standing_text places u p ∙ ap (set (map standing_text places) u) e

-- a text that is accepted fits into a place
pub accepted_short : (t : List ℕ) → Ok tt ≡ unit_verdict t → length t ≤ 4096
accepted_short t e = (read_whole t (admitted (outcome (read t)) e)).few
  where
    admitted : (r : Result (Prim.Unit {0}) UnitFault) → Ok tt ≡ both r (ruled t (fault_in t)) → Ok tt ≡ r
    admitted (Ok tt) k = refl
    admitted (Err f) k = cc k
