use Rattle.std.proofs.Common.{length}
use Rattle.graphs.proofs.Words.{Joining}
use Rattle.graphs.proofs.bits.join.Given as goal

abbrev pub invariant-loop-i : goal.invariant-loop-i
invariant-loop-i l = Joining (length l.row) l.initial.m l.m l.row l.u l.i
