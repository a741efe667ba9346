use Rattle.constraints.proofs.Sound.{list_valid}
use Rattle.constraints.proofs.list.ConstraintList.words.Goals as goal

pub returns-clause-valid : goal.returns-clause-valid
returns-clause-valid c = list_valid c.args.self.now
