use Rattle.std.proofs.Common.{◌≡◌, ℕ, ◌-◌, ◌≤◌}
use Rattle.constraints.specs.Finite.{count}
use Rattle.chains.specs.Cells.{object_of, reach, in_row}
use Rattle.chains.proofs.length_of.Given as goal

-- the objects below lo are counted, and passed
abbrev pub invariant-loop-next : goal.invariant-loop-next
invariant-loop-next l =
    (lo : ℕ) × (lo ≤ 256) × (reach l.cells l.fn.head lo ≡ l.next) × (l.n ≡ count lo (in_row l.cells l.fn.head))

abbrev pub decreases-loop-next : goal.decreases-loop-next
decreases-loop-next l = 65536 - object_of l.cells l.next
