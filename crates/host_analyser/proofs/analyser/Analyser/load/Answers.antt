use Rattle.std.proofs.Common.{is_ok, sym, ap, ◌∙◌}
use Rattle.host_analyser.proofs.Refused.{refused_reply, load_refused, still_right}
use Rattle.host_analyser.proofs.Right.{right_of}
use Rattle.host_analyser.proofs.analyser.Analyser.load.Goals as goal

pub invariant_of-self : goal.invariant_of-self
invariant_of-self g c =
    let a = c.args.self.now in
    let was = c.in_err-load.was in
    let f = c.in_err-load.field-0.0 in
    let applies = refused_reply _ f (sym was ∙ c.load.ensures.replies) in
    let same = load_refused a.units c.load.new.self c.args.unit c.args.text.now f applies c.load.ensures.after in
    record { in_step = λ settled. ∣ still_right (g.E.Engine.meaning a.engine) a.units c.load.new.self a.list same (c.load.ensures.laid (ap is_ok was)) (right_of (a.in_step settled)) ∣₁ }
