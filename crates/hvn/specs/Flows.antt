-- What a flow says of a list.
use Rattle.std.specs.Prelude.{◌≡◌, ℕ, false, slice_index_or}
use Rattle.constraints.specs.Constraint.{System, var_count}
use Rattle.constraints.specs.Merge.{is_open, copy_edge}
use Rattle.graphs.specs.Order.{Arranged}
use Rattle.flows.specs.Columns.{ReachBits}
use Rattle.hvn.specs.declared.flow.Flow.{Flow}

pub record FoundFlow (sys : System) (flow : Flow) : Type 0 where
  pub opened : (v : ℕ) → slice_index_or flow.flags v false ≡ is_open sys v
  pub reaches : ReachBits sys flow.reach.words
  pub arranged : Arranged (copy_edge sys) flow.order (var_count sys)
  pub counted : flow.count ≡ var_count sys
