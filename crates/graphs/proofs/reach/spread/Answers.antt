use Rattle.std.proofs.Common.{◌+◌, sym, subst}
use Rattle.graphs.specs.declared.bits.BitMatrix.{BitMatrix}
use Rattle.graphs.proofs.Closing.{Rounding, rounding_joined, rounding_passed}
use Rattle.graphs.proofs.reach.spread.Goals as goal
use Rattle.graphs.proofs.reach.spread.Goals.{then-has, else-has}

pub loop-u-preserved : goal.loop-u-preserved
loop-u-preserved c =
    let so_far = c.loop-u.invariant in
    let Next : BitMatrix 8 2048 → Type 0 = λ m. Rounding c.args.k c.args.row.now c.args.m.now.words m.words (c.loop-u.u + 1) in
    elim c.if-has.branch [
      | then-has w ↦ subst Next (sym w.m-is) (rounding_joined _ _ _ _ _ c.requires so_far _ (sym w.if-has.ensures) w.join.ensures)
      | else-has w ↦ subst Next (sym w.m-is) (rounding_passed _ _ _ _ _ c.requires so_far (sym w.if-has.ensures))
    ]
