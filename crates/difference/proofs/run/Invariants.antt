use Rattle.std.proofs.Common.{◌≡◌}
use Rattle.constraints.specs.Constraint.{Solves, first}
use Rattle.constraints.specs.Lists.{system_of}
use Rattle.walks.specs.Grown.{Grows, Any}
use Rattle.difference.specs.Queue.{Ready}
use Rattle.difference.proofs.Runs.{effort}
use Rattle.difference.proofs.run.Given as goal

-- what the pairs handed on ask is there, and only what every solution has was added
abbrev pub invariant-loop-pair : goal.invariant-loop-pair
invariant-loop-pair g l =
    let pairs = g.S.RowStore.pairs in
    let room = g.S.RowStore.room in
    Ready (system_of l.list) l.work.taken (pairs l.work.store) l.work.pending
    × Grows (λ d. pairs d.store) (λ d. room d.store) Any (Solves (first l.initial.work.taken (system_of l.list))) l.initial.work l.work
    × (l.work.taken ≡ l.initial.work.taken)

abbrev pub decreases-loop-pair : goal.decreases-loop-pair
decreases-loop-pair g l = effort (g.S.RowStore.pairs l.work.store) l.work.pending
