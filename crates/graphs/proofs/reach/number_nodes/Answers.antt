use Rattle.std.proofs.Common.{arith}
use Rattle.graphs.proofs.Parts.{components_rows}
use Rattle.graphs.proofs.reach.number_nodes.Goals as goal

pub returns : goal.returns
returns c edge closure =
    components_rows edge c.args.words.now closure c.fits-words (omega arith) _ (λ u hu. c.number_rows.ensures u (omega arith))
