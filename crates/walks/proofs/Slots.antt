-- A variable of a block is one of the 256.
use Rattle.std.proofs.Common.{ℕ, ◌+◌, ◌<◌, arith}
use Rattle.constraints.specs.Constraint.{length_of}
use Rattle.constraints.specs.Lists.{system_of}
use Rattle.constraints.specs.declared.list.ConstraintList.{ConstraintList}
use Rattle.constraints.proofs.Least.{block_below}
use Rattle.constraints.proofs.Sound.{list_valid}

pub slot_below : (l : ConstraintList) (o k : ℕ) → k < length_of (system_of l).blocks o → o + k < 256
slot_below l o k h = omega (arith, block_below (system_of l).blocks o k h, (list_valid l).few)
