use Rattle.std.proofs.Common.{◌≡◌, ℕ, ◌+◌, List, ◌++◌, map, length, take}
use Rattle.grammar.specs.Meanings.{place_in}
use Rattle.declarations.specs.Declarations.{uses}
use Rattle.declarations.specs.Meanings.{noted}
use Rattle.declarations.specs.Listed.{listed}
use Rattle.declarations.proofs.mention.note_call.Given as goal

abbrev pub invariant-loop-argument : goal.invariant-loop-argument
invariant-loop-argument l =
    record {
      long : length (listed l.mentions) ≡ length (listed l.initial.mentions) + l.argument-index;
      all : (text : List ℕ) → noted text (listed l.mentions) ≡ noted text (listed l.initial.mentions) ++ map uses (take l.argument-index (map (place_in text) l.argument-items));
    }
