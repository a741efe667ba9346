use Rattle.std.proofs.Common.{◌≡◌, [], take}
use Rattle.engine.specs.Meanings.{gathering}
use Rattle.engine.proofs.hand.hand_blocks.Given as goal

-- the blocks so far are handed down
abbrev pub invariant-loop-n : goal.invariant-loop-n
invariant-loop-n g l =
    g.E.Engine.meaning l.below ≡ gathering (g.E.Engine.meaning l.initial.below) (record { blocks = take l.n-index l.blocks; words = [] })
