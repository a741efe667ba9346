use Rattle.std.proofs.Common.{◌+◌}
use Rattle.std.specs.Option.{option_map_or}
use Rattle.numbering.proofs.Chains.{Walk}
use Rattle.numbering.proofs.lookup.Given as goal

abbrev pub invariant-loop-cursor : goal.invariant-loop-cursor
invariant-loop-cursor g l = Walk (g.B.KeyBank.same l.bank) (g.B.KeyBank.hashed l.bank) l.i l.cursor

abbrev pub decreases-loop-cursor : goal.decreases-loop-cursor
decreases-loop-cursor g l = option_map_or (λ p. p + 1) l.cursor 0
