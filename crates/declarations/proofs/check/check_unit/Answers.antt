use Rattle.declarations.proofs.Verdict.{known_verdicts}
use Rattle.declarations.proofs.check.check_unit.Goals as goal

pub returns-in_err-check_text-clause-known : goal.returns-in_err-check_text-clause-known
returns-in_err-check_text-clause-known c = known_verdicts

pub returns-in-Some-clause-known : goal.returns-in-Some-clause-known
returns-in-Some-clause-known c = known_verdicts

pub returns-in-None-clause-known : goal.returns-in-None-clause-known
returns-in-None-clause-known c = known_verdicts
