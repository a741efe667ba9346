use Rattle.std.proofs.Common.{◌≡◌, ℕ, ◌<◌, get_or}
use Rattle.constraints.specs.Finite.{any}
use Rattle.constraints.specs.Constraint.{decode}
use Rattle.constraints.specs.Merge.{copies}
use Rattle.graphs.specs.Matrix.{bit}
use Rattle.flows.proofs.copies.CopiesGraph.draw.Given as goal

-- the edges of the first i words are drawn
abbrev pub invariant-loop-word : goal.invariant-loop-word
invariant-loop-word l = (u v : ℕ) → u < 256 → v < 256 → bit l.m.words u v ≡ any l.word-index (λ j. copies u v (decode (get_or l.words j 0)))
