use Rattle.std.proofs.Common.{◌≡◌}
use Rattle.constraints.specs.Constraint.{Solves, first}
use Rattle.constraints.specs.Lists.{system_of}
use Rattle.walks.specs.Grown.{Grows, Any}
use Rattle.worklist.specs.Waits.{waits, Ready}
use Rattle.worklist.proofs.Runs.{effort}
use Rattle.worklist.proofs.run.Given as goal

-- each word taken in waits or is met, and only what every solution has was added
abbrev pub invariant-loop-j : goal.invariant-loop-j
invariant-loop-j g l =
    let pairs = g.S.RowStore.pairs in
    let room = g.S.RowStore.room in
    Ready (system_of l.list) l.work.taken (pairs l.work.store) (waits l.work.waiting)
    × Grows (λ w. pairs w.store) (λ w. room w.store) Any (Solves (first l.initial.work.taken (system_of l.list))) l.initial.work l.work
    × (l.work.taken ≡ l.initial.work.taken)

abbrev pub decreases-loop-j : goal.decreases-loop-j
decreases-loop-j g l = effort (g.S.RowStore.pairs l.work.store) (waits l.work.waiting)
