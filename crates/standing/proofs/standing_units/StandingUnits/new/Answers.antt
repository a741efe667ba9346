use Rattle.standing.proofs.Sounds.{new_sound}
use Rattle.standing.proofs.standing_units.StandingUnits.new.Goals as goal

pub invariant_of-result : goal.invariant_of-result
invariant_of-result c = record { sound = ∣ new_sound c.new.result c.new.ensures ∣₁ }
