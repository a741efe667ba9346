use Rattle.std.proofs.Common.{◌-◌, ◌≤◌}
use Rattle.walks.specs.Visits.{Visits, Visited}
use Rattle.walks.proofs.for_each_object.Given as goal

-- what the visits that are left lead to, the visits of all objects lead to
abbrev pub invariant-loop-visit : goal.invariant-loop-visit
invariant-loop-visit g l =
    let rows = g.G.Grower.rows in
    let visits = Visits g.F.Fn l.visit in
    ((t : _) (r : _) → Visited rows visits l.v l.at l.g t r → Visited rows visits l.v 0 l.initial.g t r)
    × (l.at ≤ 256)

abbrev pub decreases-loop-visit : goal.decreases-loop-visit
decreases-loop-visit g l = 256 - l.at
