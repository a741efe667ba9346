use Rattle.std.proofs.Common.{◌∙◌}
use Rattle.names.proofs.Held.{variables_over}
use Rattle.names.proofs.Sounds.{is_sound}
use Rattle.names.proofs.table.NameTable.variables.Goals as goal

pub returns-clause-sum : goal.returns-clause-sum
returns-clause-sum c = λ ns lists. (is_sound c.args.self.now.sound).counted ∙ variables_over c.args.self.now ns lists
