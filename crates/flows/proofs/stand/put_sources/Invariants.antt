use Rattle.std.proofs.Common.{◌≡◌, ℕ, ◌<◌, ◌&&◌, ◌||◌, get_or}
use Rattle.graphs.specs.Matrix.{bit_at}
use Rattle.constraints.specs.Finite.{any}
use Rattle.constraints.specs.Constraint.{decode}
use Rattle.constraints.specs.Lists.{system_of}
use Rattle.constraints.specs.Merge.{is_open, row, same_source, brings}
use Rattle.flows.specs.Columns.{source_at}
use Rattle.flows.proofs.stand.put_sources.Given as goal

abbrev pub invariant-loop-word : goal.invariant-loop-word
invariant-loop-word l =
    (u c : ℕ) → u < 256 → c < 2560
    → bit_at 80 l.stand.words u c ≡ ((is_open (system_of l.list) u && same_source (row u) (source_at c)) || any l.word-index (λ j. brings (source_at c) u (decode (get_or l.words j 0))))
