use Rattle.constraints.specs.Lists.{system_of}
use Rattle.hvn.proofs.Progress.{Progress}
use Rattle.hvn.proofs.sets.Sets.number_values.Given as goal

abbrev pub invariant-loop-k : goal.invariant-loop-k
invariant-loop-k l = Progress (system_of l.list) l.flow.order l.self.rows.words l.number l.k
