use Rattle.std.proofs.Common.{rules}
use Rattle.rows.proofs.Replies.{found_is}
use Rattle.solvers.proofs.solver.SolverEngine.next.Goals as goal

pub returns : goal.returns
returns g c =
    let found = found_is _ c.args.from c.in_ok-next.field-0 c.in_ok-next.ensures.0 in
    search rules
