use Rattle.std.proofs.Common.{◌≡◌, ℕ, ◌<◌, ◌≤◌, false}
use Rattle.graphs.specs.Matrix.{bit_at}
use Rattle.hu.specs.Marks.{gathered}
use Rattle.hu.proofs.mark.Sources.mark_rows.Given as goal

abbrev pub invariant-loop-v : goal.invariant-loop-v
invariant-loop-v l =
    ((x c : ℕ) → x < l.v → c < 2560 → bit_at 80 l.marks.words x c ≡ gathered l.self.reach.words l.self.stand.words x c l.self.count)
    × ((x c : ℕ) → l.v ≤ x → x < 256 → c < 2560 → bit_at 80 l.marks.words x c ≡ false)
