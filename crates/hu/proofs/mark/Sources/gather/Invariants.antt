use Rattle.std.proofs.Common.{◌≡◌, ℕ, ◌<◌, ◌||◌, ◌≢◌}
use Rattle.graphs.specs.Matrix.{bit_at}
use Rattle.hu.specs.Marks.{gathered}
use Rattle.hu.proofs.mark.Sources.gather.Given as goal

abbrev pub invariant-loop-u : goal.invariant-loop-u
invariant-loop-u l =
    ((c : ℕ) → c < 2560 → bit_at 80 l.marks.words l.v c ≡ (bit_at 80 l.initial.marks.words l.v c || gathered l.self.reach.words l.self.stand.words l.v c l.u))
    × ((x c : ℕ) → c < 2560 → x ≢ l.v → bit_at 80 l.marks.words x c ≡ bit_at 80 l.initial.marks.words x c)
