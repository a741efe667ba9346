use Rattle.chains.proofs.Chained.{wiped_sound, wiped_pairs, chain_within}
use Rattle.chains.proofs.ChainsRowStore.wipe.Goals as goal

pub invariant_of-self : goal.invariant_of-self
invariant_of-self c = record { sound = ∣ wiped_sound c.args.self.now.cells.items ∣₁ }

pub returns-clause-empties : goal.returns-clause-empties
returns-clause-empties c = wiped_pairs c.args.self.now.cells.items

pub returns-clause-within : goal.returns-clause-within
returns-clause-within c = chain_within _ _ _ (wiped_sound c.args.self.now.cells.items)
