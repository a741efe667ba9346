use Rattle.graphs.proofs.Closing.{Rounding}
use Rattle.graphs.proofs.reach.spread.Given as goal

abbrev pub invariant-loop-u : goal.invariant-loop-u
invariant-loop-u l = Rounding l.k l.row l.initial.m.words l.m.words l.u
