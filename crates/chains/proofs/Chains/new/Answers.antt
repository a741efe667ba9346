use Rattle.chains.proofs.Chained.{wiped_sound, wiped_pairs}
use Rattle.chains.proofs.Chains.new.Goals as goal

pub invariant_of-result : goal.invariant_of-result
invariant_of-result c = record { sound = ∣ wiped_sound c.args.cells.items ∣₁ }

pub returns-clause-empties : goal.returns-clause-empties
returns-clause-empties c = wiped_pairs c.args.cells.items
