use Rattle.std.proofs.Common.{◌≡◌, ℕ, ◌<◌, false, ◌&&◌, ltb, get_or}
use Rattle.graphs.specs.Matrix.{bit_at}
use Rattle.constraints.specs.Merge.{row, same_source}
use Rattle.flows.specs.Columns.{source_at}
use Rattle.flows.proofs.stand.put_open.Given as goal

abbrev pub invariant-loop-v : goal.invariant-loop-v
invariant-loop-v l = (u c : ℕ) → u < 256 → c < 2560 → bit_at 80 l.stand.words u c ≡ (ltb u l.v && (get_or l.flags u false && same_source (row u) (source_at c)))
