use Rattle.std.proofs.Common.{sym, ap, ◌∙◌, subst}
use Rattle.histories.specs.declared.call.Question.TheVariants.{Points, Alias}
use Rattle.histories.specs.Says.{answer_of, Answers}
use Rattle.host_analyser.specs.States.{book_of}
use Rattle.host_analyser.proofs.Right.{right_of}
use Rattle.histories.proofs.Answered.{answers_by}
use Rattle.histories.proofs.history.ask.Goals as goal

pub returns-in-Points-clause-says : goal.returns-in-Points-clause-says
returns-in-Points-clause-says g c =
    let b = book_of c.args.analyser.now in
    subst (λ q. Answers b q c.answer.result) (sym c.in-Points.is)
    (answers_by b (λ e. (right_of (c.args.analyser.now.in_step e)).lawful) (Points c.in-Points.place c.in-Points.name) _
    (c.answer.ensures ∙ ap answer_of c.points.ensures.replies))

pub returns-in-Alias-clause-says : goal.returns-in-Alias-clause-says
returns-in-Alias-clause-says g c =
    let b = book_of c.args.analyser.now in
    subst (λ q. Answers b q c.answer-in-Alias.result) (sym c.in-Alias.is)
    (answers_by b (λ e. (right_of (c.args.analyser.now.in_step e)).lawful) (Alias c.in-Alias.first c.in-Alias.second) _
    (c.answer-in-Alias.ensures ∙ ap answer_of c.alias.ensures.replies))
