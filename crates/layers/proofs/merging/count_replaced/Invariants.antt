use Rattle.std.proofs.Common.{◌≡◌, ◌≤◌, not, eqb, get_or}
use Rattle.constraints.specs.Finite.{count}
use Rattle.layers.proofs.merging.count_replaced.Given as goal

abbrev pub invariant-loop-v : goal.invariant-loop-v
invariant-loop-v l = (l.n ≡ count l.v (λ u. not (eqb (get_or l.reps u 0) u))) × (l.n ≤ l.v)
