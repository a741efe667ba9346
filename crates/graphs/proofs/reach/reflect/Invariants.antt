use Rattle.graphs.proofs.Closing.{Reflecting}
use Rattle.graphs.proofs.reach.reflect.Given as goal

abbrev pub invariant-loop-u : goal.invariant-loop-u
invariant-loop-u l = Reflecting l.initial.m.words l.m.words l.u
