use Rattle.constraints.proofs.Known.{table_right}
use Rattle.constraints.proofs.laws.known_outcomes.Goals as goal

pub returns : goal.returns
returns c = table_right
