use Rattle.numbering.proofs.Chains.{Progress}
use Rattle.numbering.proofs.number.Given as goal

abbrev pub invariant-loop-i : goal.invariant-loop-i
invariant-loop-i g l =
    let bank = g.B.KeyBank in
    Progress (bank.same l.bank) (bank.hashed l.bank) l.initial.first l.first l.heads l.links l.i
