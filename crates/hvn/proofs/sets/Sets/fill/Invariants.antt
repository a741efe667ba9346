use Rattle.std.proofs.Common.{◌≡◌, ℕ, ◌<◌, ◌||◌, ◌≢◌}
use Rattle.graphs.specs.Matrix.{bit_at}
use Rattle.hvn.specs.Columns.{brought}
use Rattle.hvn.proofs.sets.Sets.fill.Given as goal

abbrev pub invariant-loop-word : goal.invariant-loop-word
invariant-loop-word l =
    record {
      row : (c : ℕ) → c < 2816 → bit_at 88 l.self.rows.words l.k c
          ≡ (bit_at 88 l.initial.self.rows.words l.k c || brought l.words l.flow.reach.words l.number l.v l.word-index c);
      others : (y c : ℕ) → c < 2816 → y ≢ l.k → bit_at 88 l.self.rows.words y c ≡ bit_at 88 l.initial.self.rows.words y c;
    }
