use Rattle.std.proofs.Common.{◌≡◌}
use Rattle.grammar.specs.Items.{text_of, offset_of}
use Rattle.declarations.specs.Listed.{listed}
use Rattle.declarations.proofs.Checking.{Noting}
use Rattle.declarations.proofs.check.note_all.Given as goal

abbrev pub invariant-loop-found : goal.invariant-loop-found
invariant-loop-found l = record { same : text_of l.found-iterator ≡ l.text; noting : Noting l.text (listed l.mentions) (offset_of l.found-iterator) }
