use Rattle.std.proofs.Common.{◌-◌, length}
use Rattle.grammar.proofs.Units.{Walked}
use Rattle.grammar.proofs.reader.read_all.Given as goal

abbrev pub invariant-loop-found : goal.invariant-loop-found
invariant-loop-found l = Walked l.text l.at (λ ss. Unit {0})

abbrev pub decreases-loop-found : goal.decreases-loop-found
decreases-loop-found l = length l.text - l.at
