use Rattle.std.proofs.Common.{arith}
use Rattle.hvn.proofs.Rowing.{first_same, first_least}
use Rattle.hvn.proofs.sets.first_equal.Goals as goal

pub returns-clause-same : goal.returns-clause-same
returns-clause-same c = first_same c.args.words.now c.args.k (omega arith) c.fits-words _ c.number_rows.ensures

pub returns-clause-least : goal.returns-clause-least
returns-clause-least c = first_least c.args.words.now c.args.k (omega arith) c.fits-words _ c.number_rows.ensures
