use Rattle.std.proofs.Common.{sym, ◌∙◌}
use Rattle.std.proofs.lemmas.Bool.{cond-true, cond-false}
use Rattle.questions.proofs.Places.{any_blank, grammatical}
use Rattle.questions.proofs.read_place.Goals as goal

pub returns-then-has_blank : goal.returns-then-has_blank
returns-then-has_blank c = record { is = sym (cond-true _ _ _ (sym (c.if-has_blank.ensures ∙ any_blank c.args.text.now))); grammar = grammatical _ }

pub returns : goal.returns
returns c = record { is = c.place_of.ensures ∙ sym (cond-false _ _ _ (sym (c.if-has_blank.ensures ∙ any_blank c.args.text.now))); grammar = grammatical _ }
