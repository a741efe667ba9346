use Rattle.lexemes.proofs.Bytes.{cut_part}
use Rattle.lexemes.proofs.lexeme.bytes_of.Goals as goal

pub returns : goal.returns
returns c = cut_part _ _ _ _ _ c.min-to.ensures c.min-from.ensures
