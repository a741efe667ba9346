use Rattle.std.proofs.Common.{is_ok, sym, ap, ◌∙◌}
use Rattle.host_analyser.proofs.Refused.{refused_reply, unload_refused, still_right}
use Rattle.host_analyser.proofs.Right.{right_of}
use Rattle.host_analyser.proofs.analyser.Analyser.unload.Goals as goal

pub invariant_of-self : goal.invariant_of-self
invariant_of-self g c =
    let a = c.args.self.now in
    let was = c.in_err-unload.was in
    let f = c.in_err-unload.field-0.0 in
    let applies = refused_reply _ f (sym was ∙ c.unload.ensures.replies) in
    let same = unload_refused a.units c.unload.new.self c.args.unit f applies c.unload.ensures.after in
    record { in_step = λ settled. ∣ still_right (g.E.Engine.meaning a.engine) a.units c.unload.new.self a.list same (c.unload.ensures.laid (ap is_ok was)) (right_of (a.in_step settled)) ∣₁ }
