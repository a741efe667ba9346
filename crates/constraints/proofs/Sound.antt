-- Every list is valid.
use Rattle.std.proofs.Common.{get_or, arith}
use Rattle.constraints.specs.Constraint.{Valid}
use Rattle.constraints.specs.Lists.{system_of}
use Rattle.constraints.specs.declared.list.ConstraintList.{ConstraintList}
use Rattle.constraints.proofs.Formed.{word_formed}

pub list_valid : (p : ConstraintList) → Valid (system_of p)
list_valid p =
    record {
      sized = p.sized;
      few = omega (arith, p.few, p.counted);
      few_words = p.within;
      formed = λ i h. word_formed p.lengths.items (get_or p.words.items i 0) (p.formed i h);
    }
