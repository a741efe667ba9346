use Rattle.std.proofs.Common.{◌≡◌, ◌≤◌}
use Rattle.grammar.specs.Items.{text_of, offset_of}
use Rattle.declarations.specs.Meanings.{declarations_from}
use Rattle.declarations.proofs.cursor.next_declaration.Given as goal

abbrev pub invariant-loop-found : goal.invariant-loop-found
invariant-loop-found l =
    record {
      same : text_of l.found-iterator ≡ l.text;
      onward : l.at ≤ offset_of l.found-iterator;
      passed : declarations_from l.text l.at ≡ declarations_from l.text (offset_of l.found-iterator);
    }
