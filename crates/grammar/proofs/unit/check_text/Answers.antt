use Rattle.std.proofs.Common.{◌≡◌, rules, sym, ap, ◌∙◌}
use Rattle.grammar.specs.Units.{outcome}
use Rattle.grammar.proofs.Reading.{too_long, refused, outcome_from}
use Rattle.grammar.proofs.unit.check_text.Goals as goal

pub returns-then-text-gt-LONGEST_TEXT : goal.returns-then-text-gt-LONGEST_TEXT
returns-then-text-gt-LONGEST_TEXT c = sym (ap outcome (too_long _ c.if-text-gt-LONGEST_TEXT.true))

pub returns : goal.returns
returns c =
    let is : c.map_err.result ≡ refused c.check_grammar.result = search rules in
    is ∙ outcome_from c.args.text.now _ c.if-text-gt-LONGEST_TEXT.false c.check_grammar.ensures.read
