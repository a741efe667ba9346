use Rattle.std.proofs.Common.{Some, arith}
use Rattle.std.proofs.lemmas.Grind.{common_steps}
use Rattle.analyser.specs.Books.{load_refusal}
use Rattle.analyser.proofs.Units.{set_place, accepted_short}
use Rattle.analyser.proofs.analyser.Analyser.load.Goals as goal

pub put-requires : goal.put-requires
put-requires c = accepted_short c.args.text.now c.in_ok-check_unit.ensures.verdict

pub returns-clause-after : goal.returns-clause-after
unfolding load_refusal
returns-clause-after c = rw (set_place c.args.self.now.places c.args.unit c.put.new.self (Some c.args.text.now) c.put.ensures) (grind (arith, common_steps))
