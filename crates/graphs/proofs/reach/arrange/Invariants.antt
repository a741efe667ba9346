use Rattle.std.proofs.Common.{ℕ, ◌<◌, Bool, get_or}
use Rattle.graphs.specs.Paths.{Closure}
use Rattle.graphs.specs.Order.{Arranged}
use Rattle.graphs.proofs.reach.arrange.Given as goal

abbrev pub invariant-loop-u : goal.invariant-loop-u
invariant-loop-u l =
    ((k : ℕ) → k < l.u → get_or l.order k 0 < l.u) × ((edge : ℕ → ℕ → Bool) → Closure edge l.m.words → Arranged edge l.order l.u)
