use Rattle.std.proofs.Common.{◌≡◌, ◌-◌, ◌≤◌, length}
use Rattle.lexemes.specs.Lexemes.{pieces_from}
use Rattle.grammar.specs.Parse.{parse}
use Rattle.grammar.specs.Meanings.{state_in, statements_from}
use Rattle.grammar.proofs.reader.next_item.Given as goal

abbrev pub invariant-loop-token : goal.invariant-loop-token
invariant-loop-token l =
    (l.at ≤ l.from) × (statements_from l.text l.at ≡ parse (length l.text) l.start (state_in l.text l.state) (pieces_from l.text l.from))

abbrev pub decreases-loop-token : goal.decreases-loop-token
decreases-loop-token l = length l.text - l.from
