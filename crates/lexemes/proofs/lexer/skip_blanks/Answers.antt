use Rattle.lexemes.proofs.Bytes.{blanks_passed, blanks_stop}
use Rattle.lexemes.proofs.lexer.skip_blanks.Goals as goal

pub returns-clause-same : goal.returns-clause-same
returns-clause-same c = blanks_passed c.args.text.now c.args.at _ _ _ c.min.ensures c.end_of_blanks.ensures c.unwrap_or.ensures

pub returns-clause-stops : goal.returns-clause-stops
returns-clause-stops c = blanks_stop c.args.text.now c.args.at _ _ _ c.min.ensures c.end_of_blanks.ensures c.unwrap_or.ensures
