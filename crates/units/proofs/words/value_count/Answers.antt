use Rattle.std.proofs.Common.{ℕ, ◌+◌, length, Some, sym, ap, ◌∙◌}
use Rattle.std.proofs.lemmas.List.{length-map}
use Rattle.grammar.specs.Given.{given}
use Rattle.grammar.specs.declared.item.Value.{Value}
use Rattle.grammar.specs.Meanings.{place_in, callee_in, arguments_in, value_in}
use Rattle.units.specs.Statements.{value_words}
use Rattle.units.proofs.Arguments.{call_length}
use Rattle.units.proofs.words.value_count.Goals as goal

pub returns-in-Returned-clause-all : goal.returns-in-Returned-clause-all
returns-in-Returned-clause-all c text p =
    let call = c.in-Returned.call in
    ap (λ (n : ℕ). n + 1) (c.len.ensures.all ∙ sym (length-map (given call.arguments) (place_in text)))
    ∙ sym (call_length (callee_in text call.callee) (Some p) (arguments_in text call.arguments))
    ∙ sym (ap (λ (v : Value). length (value_words p (value_in text v))) c.in-Returned.is)
