use Rattle.constraints.proofs.Least.{least_taken, first_within}
use Rattle.constraints.proofs.Smallest.{least_smallest, smallest_unique, in_every, in_every_rows}
use Rattle.constraints.proofs.laws.smallest_solution.Goals as goal

pub returns : goal.returns
returns c =
    record {
      exists = least_smallest;
      unique = smallest_unique;
      common = in_every;
      untyped = in_every_rows;
      taken = least_taken;
      prefix = first_within;
    }
