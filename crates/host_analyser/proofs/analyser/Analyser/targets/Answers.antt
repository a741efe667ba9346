use Rattle.std.proofs.Common.{Err, ap, ◌∙◌}
use Rattle.std.proofs.lemmas.Result.{err_from_is_err_and}
use Rattle.host_analyser.proofs.Right.{right_of}
use Rattle.host_analyser.proofs.Targeted.{refused_call, too_long, written}
use Rattle.host_analyser.proofs.analyser.Analyser.targets.Goals as goal

pub returns-in_err-v-clause-replies : goal.returns-in_err-v-clause-replies
returns-in_err-v-clause-replies g c =
    let a = c.args.self.now in
    let right = right_of (a.in_step c.if-not-self.false) in
    let p = err_from_is_err_and c.from_residual.result c.from_residual.ensures.1 in
    p.1 ∙ ap Err p.2 ∙ (refused_call a.units a.settled c.if-not-self.false c.args.unit c.args.index c.args.buffer.now c.in_err-v.field-0.0 (c.in_err-v.ensures.found right.laid)).0

pub returns-in_err-v-clause-writes : goal.returns-in_err-v-clause-writes
returns-in_err-v-clause-writes g c =
    let a = c.args.self.now in
    let right = right_of (a.in_step c.if-not-self.false) in
    (refused_call a.units a.settled c.if-not-self.false c.args.unit c.args.index c.args.buffer.now c.in_err-v.field-0.0 (c.in_err-v.ensures.found right.laid)).1

pub returns-then-length-buffer-clause-replies : goal.returns-then-length-buffer-clause-replies
returns-then-length-buffer-clause-replies g c =
    let a = c.args.self.now in
    let right = right_of (a.in_step c.if-not-self.false) in
    (too_long (g.E.Engine.meaning a.engine) a.units a.list right a.settled c.if-not-self.false c.args.unit c.args.index c.in_ok-v.v (c.in_ok-v.ensures.found right.laid)
    c.args.buffer.now c.list_targets-length.result (c.list_targets-length.ensures.count _) c.if-length-buffer.true).0

pub returns-then-length-buffer-clause-writes : goal.returns-then-length-buffer-clause-writes
returns-then-length-buffer-clause-writes g c =
    let a = c.args.self.now in
    let right = right_of (a.in_step c.if-not-self.false) in
    (too_long (g.E.Engine.meaning a.engine) a.units a.list right a.settled c.if-not-self.false c.args.unit c.args.index c.in_ok-v.v (c.in_ok-v.ensures.found right.laid)
    c.args.buffer.now c.list_targets-length.result (c.list_targets-length.ensures.count _) c.if-length-buffer.true).1

pub returns-clause-replies : goal.returns-clause-replies
returns-clause-replies g c =
    let a = c.args.self.now in
    let right = right_of (a.in_step c.if-not-self.false) in
    let once = c.list_targets-length.ensures in
    let again = c.list_targets.ensures in
    (written (g.E.Engine.meaning a.engine) a.units a.list right a.settled c.if-not-self.false c.args.unit c.args.index c.in_ok-v.v (c.in_ok-v.ensures.found right.laid)
    c.args.buffer.now c.list_targets-length.result (once.count _) c.if-length-buffer.false (g.E.Engine.meaning c.list_targets-length.new.engine) once.stays
    c.list_targets.result c.list_targets.new.out (again.count _) (again.written _)).0

pub returns-clause-writes : goal.returns-clause-writes
returns-clause-writes g c =
    let a = c.args.self.now in
    let right = right_of (a.in_step c.if-not-self.false) in
    let once = c.list_targets-length.ensures in
    let again = c.list_targets.ensures in
    (written (g.E.Engine.meaning a.engine) a.units a.list right a.settled c.if-not-self.false c.args.unit c.args.index c.in_ok-v.v (c.in_ok-v.ensures.found right.laid)
    c.args.buffer.now c.list_targets-length.result (once.count _) c.if-length-buffer.false (g.E.Engine.meaning c.list_targets-length.new.engine) once.stays
    c.list_targets.result c.list_targets.new.out (again.count _) (again.written _)).1
