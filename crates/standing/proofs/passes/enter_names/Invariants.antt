use Rattle.std.proofs.Common.{◌≡◌}
use Rattle.std.specs.List.{flat_map, AllByRecursion}
use Rattle.declarations.specs.Declarations.{entry, declarations_in}
use Rattle.books.specs.Counts.{Short}
use Rattle.standing.specs.Passes.{known_in, enter_all, fit_all}
use Rattle.standing.specs.Cursors.{text_read, offset_of}
use Rattle.standing.proofs.Rests.{Rest}
use Rattle.standing.proofs.passes.enter_names.Given as goal

abbrev pub invariant-loop-found : goal.invariant-loop-found
invariant-loop-found l = (text_read l.found-iterator ≡ l.text) × Rest l.text (offset_of l.found-iterator) (λ ds.
    AllByRecursion Short (flat_map entry ds)
    × (fit_all (known_in l.initial.names) (declarations_in l.text) ≡ fit_all (known_in l.names) ds)
    × (enter_all (known_in l.initial.names) (declarations_in l.text) ≡ enter_all (known_in l.names) ds))
