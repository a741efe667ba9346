use Rattle.std.proofs.Common.{◌≡◌}
use Rattle.declarations.specs.Declarations.{declarations_in}
use Rattle.names.specs.Held.{notes}
use Rattle.standing.specs.Passes.{forget_all}
use Rattle.standing.specs.Cursors.{text_read, offset_of}
use Rattle.standing.proofs.Rests.{Rest}
use Rattle.standing.proofs.passes.forget_names.Given as goal

abbrev pub invariant-loop-found : goal.invariant-loop-found
invariant-loop-found l = (text_read l.found-iterator ≡ l.text) × Rest l.text (offset_of l.found-iterator) (λ ds. forget_all (notes l.initial.names) (declarations_in l.text) ≡ forget_all (notes l.names) ds)
