use Rattle.std.proofs.Common.{◌≡◌, ◌-◌}
use Rattle.constraints.specs.Least.{least}
use Rattle.host_analyser.specs.Objects.{AnswersFor, Unshared}
use Rattle.host_analyser.proofs.asking.share_object.Given as goal

-- nothing below `from` is shared, and the engine still means what it meant
abbrev pub invariant-loop-o : goal.invariant-loop-o
invariant-loop-o g l =
    let m = g.E.Engine.meaning l.initial.engine in
    (g.E.Engine.meaning l.engine ≡ m)
    × (AnswersFor m l.v → AnswersFor m l.w → Unshared (least m.system l.v) (least m.system l.w) l.from)

abbrev pub decreases-loop-o : goal.decreases-loop-o
decreases-loop-o g l = 256 - l.from
