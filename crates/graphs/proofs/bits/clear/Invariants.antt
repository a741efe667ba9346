use Rattle.std.proofs.Common.{◌≡◌, ℕ, ◌<◌, ◌≤◌, get_or}
use Rattle.graphs.proofs.bits.clear.Given as goal

abbrev pub invariant-loop-i : goal.invariant-loop-i
invariant-loop-i l =
    ((k : ℕ) → k < l.i → get_or l.m k 0 ≡ 0) × ((k : ℕ) → l.i ≤ k → get_or l.m k 0 ≡ get_or l.initial.m k 0)
