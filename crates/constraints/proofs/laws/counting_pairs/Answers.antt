use Rattle.constraints.proofs.Rows.{total_mono, total_one_more}
use Rattle.constraints.proofs.Solver.{settled_least, too_many, position_is}
use Rattle.constraints.proofs.laws.counting_pairs.Goals as goal

pub returns : goal.returns
returns c =
    record { contained = total_mono; one_more = total_one_more; settled = settled_least; full = too_many; position = position_is }
