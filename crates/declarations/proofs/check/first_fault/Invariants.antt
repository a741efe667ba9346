use Rattle.declarations.proofs.Checking.{Passed}
use Rattle.declarations.proofs.check.first_fault.Given as goal

abbrev pub invariant-loop-k : goal.invariant-loop-k
invariant-loop-k l = Passed l.names.text.now l.names.mentions.now l.first l.sizes l.k
