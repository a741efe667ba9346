use Rattle.std.proofs.Common.{◌≡◌, ◌-◌, ◌≤◌, None}
use Rattle.chains.specs.Cells.{object_of, above, reach}
use Rattle.chains.proofs.place_of.Given as goal

abbrev pub invariant-loop-after : goal.invariant-loop-after
invariant-loop-after l =
    (above l.cells l.before ≤ l.object)
    × (reach l.cells l.fn.head (above l.cells l.before) ≡ l.after)
    × ((l.before ≡ None → ⊥) → reach l.cells l.fn.head (object_of l.cells l.before) ≡ l.before)

abbrev pub decreases-loop-after : goal.decreases-loop-after
decreases-loop-after l = 65536 - above l.cells l.before
