use Rattle.constraints.specs.Lists.{system_of}
use Rattle.worklist.specs.Waits.{waits, Marks}
use Rattle.worklist.proofs.mark.Given as goal

abbrev pub invariant-loop-j : goal.invariant-loop-j
invariant-loop-j l = Marks (system_of l.list) l.j l.v (waits l.initial.waiting) (waits l.waiting)
