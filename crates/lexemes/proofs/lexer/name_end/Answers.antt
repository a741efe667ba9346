use Rattle.std.proofs.Common.{◌+◌, ap}
use Rattle.lexemes.proofs.Bytes.{name_ends}
use Rattle.lexemes.proofs.lexer.name_end.Goals as goal

pub returns-clause-all : goal.returns-clause-all
returns-clause-all c = ap (λ n. c.args.from + n) (name_ends c.args.text.now c.args.from _ _ c.end_of_run.ensures c.unwrap_or.ensures)
