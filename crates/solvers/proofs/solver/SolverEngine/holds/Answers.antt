use Rattle.std.proofs.Common.{◌≡◌, ◌<◌, ap, ◌∙◌, arith}
use Rattle.std.proofs.lemmas.Bool.{ltb-true}
use Rattle.constraints.specs.Constraint.{var_count, length_of}
use Rattle.constraints.specs.Lists.{system_of}
use Rattle.constraints.proofs.Sound.{list_valid}
use Rattle.solvers.proofs.Answering.{no_fault, object_below, admitted}
use Rattle.solvers.proofs.solver.SolverEngine.holds.Goals as goal

pub returns-in_err-has : goal.returns-in_err-has
returns-in_err-has g c =
    let blocks = (system_of c.args.self.now.list).blocks in
    let length : c.length_of.result ≡ length_of blocks c.args.o = c.length_of.ensures ∙ ap (length_of blocks) c.from.ensures in
    let o_in = object_below c.args.self.now.list c.args.o (omega (arith, length)) in
    let n = var_count (system_of c.args.self.now.list) in
    let v_in : c.args.v < n = ltb-true c.args.v n (admitted _ _ c.in_ok-admit.field-0 c.in_ok-admit.ensures) in
    absurd (no_fault (g.P.Propagation.rows c.args.self.now.work) c.args.v c.args.o _ (omega (arith, v_in, (list_valid c.args.self.now.list).few)) o_in c.in_err-has.ensures)
