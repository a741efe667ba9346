use Rattle.std.proofs.Common.{refl}
use Rattle.names.proofs.Sounds.{sound_none}
use Rattle.names.proofs.table.NameTable.new.Goals as goal

pub invariant_of-result : goal.invariant_of-result
invariant_of-result c = record { sound = ∣ sound_none _ _ refl refl ∣₁ }
