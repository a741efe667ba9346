use Rattle.std.proofs.Common.{None, arith}
use Rattle.std.proofs.lemmas.Grind.{common_steps}
use Rattle.analyser.specs.Books.{unload_refusal}
use Rattle.analyser.proofs.Units.{set_place}
use Rattle.analyser.proofs.analyser.Analyser.unload.Goals as goal

pub returns-clause-after : goal.returns-clause-after
unfolding unload_refusal
returns-clause-after c = rw (set_place c.args.self.now.places c.args.unit c.strike.new.self None c.strike.ensures) (grind (arith, common_steps))
