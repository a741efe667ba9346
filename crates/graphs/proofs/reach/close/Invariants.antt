use Rattle.graphs.specs.Paths.{drawn}
use Rattle.graphs.proofs.Closing.{Closing}
use Rattle.graphs.proofs.reach.close.Given as goal

abbrev pub invariant-loop-k : goal.invariant-loop-k
invariant-loop-k l = Closing (drawn l.initial.m.words) l.k l.m.words
