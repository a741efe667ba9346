use Rattle.std.proofs.Common.{◌≡◌, ◌≤◌}
use Rattle.constraints.specs.Rows.{total}
use Rattle.constraints.specs.Constraint.{first}
use Rattle.constraints.specs.Least.{least}
use Rattle.constraints.specs.Lists.{system_of}
use Rattle.solvers.proofs.solver.settle_list.Given as goal

-- the rows are the smallest solution of the first i words, which fit
abbrev pub invariant-loop-i : goal.invariant-loop-i
invariant-loop-i g l =
    let p = g.P.Propagation in
    (p.rows l.work ≡ least (first l.i-counter (system_of l.list)))
    × (total (p.rows l.work) ≤ p.limit l.initial.work)
    × p.idle l.work
    × (p.limit l.work ≡ p.limit l.initial.work)
