use Rattle.std.proofs.Common.{refl, not-suc-le-zero, arith}
use Rattle.constraints.proofs.Formed.{none_told}
use Rattle.constraints.proofs.list.ConstraintList.new.Goals as goal

pub invariant_of-result : goal.invariant_of-result
invariant_of-result c =
    let none = c.new.ensures in
    record {
      narrow = rw none (omega arith);
      few = omega arith;
      within = rw c.new-2.ensures (omega arith);
      counted = rw none refl;
      told = rw none (none_told 256);
      sized = rw none (λ i h. absurd (not-suc-le-zero h));
      formed = rw c.new-2.ensures (λ i h. absurd (not-suc-le-zero h));
    }
