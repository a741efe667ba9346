use Rattle.std.proofs.Common.{length, None, sym, ap, ◌∙◌, add-zero}
use Rattle.std.proofs.lemmas.List.{length-map}
use Rattle.grammar.specs.Given.{given}
use Rattle.grammar.specs.declared.item.Item.{Item}
use Rattle.grammar.specs.Meanings.{place_in, callee_in, arguments_in, item_in}
use Rattle.units.specs.Statements.{words_of}
use Rattle.units.proofs.Arguments.{call_length}
use Rattle.units.proofs.words.word_count.Goals as goal

pub returns-in-Invoke-clause-all : goal.returns-in-Invoke-clause-all
returns-in-Invoke-clause-all c text =
    let call = c.in-Invoke.call in
    c.len.ensures.all ∙ sym (length-map (given call.arguments) (place_in text))
    ∙ sym (call_length (callee_in text call.callee) None (arguments_in text call.arguments) ∙ add-zero _)
    ∙ sym (ap (λ (i : Item). length (words_of (item_in text i))) c.in-Invoke.is)
