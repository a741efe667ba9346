use Rattle.std.proofs.Common.{◌≡◌, take}
use Rattle.engine.specs.Meanings.{gathering}
use Rattle.engine.proofs.hand.hand_words.Given as goal

-- the words so far are handed down
abbrev pub invariant-loop-word : goal.invariant-loop-word
invariant-loop-word g l =
    g.E.Engine.meaning l.below ≡ gathering (g.E.Engine.meaning l.initial.below) (record { blocks = l.blocks; words = take l.word-index l.words })
