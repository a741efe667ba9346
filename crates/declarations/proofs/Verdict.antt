-- A text's verdict, from what its checks answer.
use Rattle.std.proofs.Common.{refl}
use Rattle.grammar.specs.Units.{read}
use Rattle.declarations.specs.Declarations.{mentions_in}
use Rattle.declarations.specs.Verdicts.{KnownVerdicts}

pub known_verdicts : KnownVerdicts
unfolding read mentions_in
known_verdicts = record { all = refl }
