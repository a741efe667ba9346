use Rattle.std.proofs.Common.{◌≡◌, rules}
use Rattle.grammar.specs.Meanings.{statements_from, verdict}
use Rattle.grammar.proofs.Units.{verdict_right}
use Rattle.grammar.proofs.Determined.{determined}
use Rattle.grammar.proofs.reader.check_grammar.Goals as goal

pub returns-clause-verdict : goal.returns-clause-verdict
returns-clause-verdict c =
    let read : c.map_err.result ≡ verdict c.args.text.now (statements_from c.args.text.now 0) = search rules in verdict_right c.args.text.now _ read

pub returns-clause-only : goal.returns-clause-only
returns-clause-only c = determined
