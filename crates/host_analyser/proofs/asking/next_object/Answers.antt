use Rattle.std.proofs.Common.{ap, ◌∙◌}
use Rattle.std.specs.Option.{option_flatten}
use Rattle.std.specs.Result.{result_ok}
use Rattle.engine.specs.Meanings.{next_answer}
use Rattle.host_analyser.proofs.Objects.{next_bound, next_answered}
use Rattle.host_analyser.proofs.asking.next_object.Goals as goal

pub returns-clause-bound : goal.returns-clause-bound
returns-clause-bound g c =
    let m = g.E.Engine.meaning c.args.engine.now in
    next_bound m c.args.v c.args.from _
    (c.flatten.ensures ∙ ap option_flatten (c.ok.ensures.value ∙ ap result_ok (c.next.ensures.replies ∙ ap (λ v. next_answer m v c.args.from) c.from.ensures)))

pub returns-clause-found : goal.returns-clause-found
returns-clause-found g c =
    let m = g.E.Engine.meaning c.args.engine.now in
    next_answered m c.args.v c.args.from _
    (c.flatten.ensures ∙ ap option_flatten (c.ok.ensures.value ∙ ap result_ok (c.next.ensures.replies ∙ ap (λ v. next_answer m v c.args.from) c.from.ensures)))
