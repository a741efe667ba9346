use Rattle.std.proofs.Common.{◌≡◌, ◌*◌, ◌≤◌, length}
use Rattle.grammar.specs.Items.{text_of, offset_of}
use Rattle.grammar.specs.Units.{statements_in}
use Rattle.grammar.proofs.Reading.{Left}
use Rattle.units.specs.Listing.{words_at}
use Rattle.units.proofs.Passes.{Counted}
use Rattle.units.proofs.listing.count_words.Given as goal

abbrev pub invariant-loop-found : goal.invariant-loop-found
invariant-loop-found l =
    record {
      few : l.count ≤ 7 * offset_of l.found-iterator;
      within : offset_of l.found-iterator ≤ length l.text;
      short : length l.text ≤ 4096;
      same : text_of l.found-iterator ≡ l.text;
      left : Left l.text (offset_of l.found-iterator) (Counted words_at (statements_in l.text) l.count);
    }
