use Rattle.std.proofs.Common.{ℕ, ◌+◌, List, length, sym, ap, ◌∙◌, arith}
use Rattle.std.specs.List.{flat_map}
use Rattle.grammar.specs.Meanings.{statement_in}
use Rattle.grammar.specs.Parse.{Statement}
use Rattle.grammar.specs.Items.{text_of, offset_of}
use Rattle.grammar.specs.Units.{statements_in}
use Rattle.grammar.proofs.Reading.{read_admitted, read_refused, left_from}
use Rattle.grammar.proofs.Items.{item_onward, item_more, item_none}
use Rattle.units.specs.Listing.{words_at, words_in}
use Rattle.units.proofs.Passes.{Counted, counted_more}
use Rattle.units.proofs.listing.count_words.Goals as goal

pub returns-then-is_err : goal.returns-then-is_err
unfolding words_in
returns-then-is_err c =
    sym (ap (λ (ss : List Statement). length (flat_map words_at ss)) (read_refused c.args.text.now _ c.check_text.ensures (sym c.is_err.ensures.value ∙ c.if-is_err.true)))

pub loop-found-init : goal.loop-found-init
loop-found-init c =
    let read = read_admitted c.args.text.now _ c.check_text.ensures (sym c.is_err.ensures.value ∙ c.if-is_err.false) in
    let at = ap offset_of c.into_iter-found-iterator.ensures.into_iter_gives ∙ c.new-found-items.ensures.at in
    record {
      few = omega arith;
      within = omega (arith, at);
      short = read.few;
      same = ap text_of c.into_iter-found-iterator.ensures.into_iter_gives ∙ c.new-found-items.ensures.text;
      left = left_from c.args.text.now (Counted words_at (statements_in c.args.text.now) 0) read _ at (omega arith);
    }

pub loop-found-preserved : goal.loop-found-preserved
loop-found-preserved c =
    let all = statements_in c.args.text.now in
    let (same, on, within) = item_onward c.args.text.now c.loop-found.found-iterator c.next.new.self c.in-Some.found c.loop-found.invariant.same c.in-Some.ensures.steps in
    record {
      few = omega (arith, on, c.loop-found.invariant.few, c.word_count-count.ensures.few);
      within = within;
      short = c.loop-found.invariant.short;
      same = same;
      left =
          item_more c.args.text.now c.loop-found.found-iterator c.next.new.self c.loop-found.invariant.left (Counted words_at all (c.loop-found.count + c.word_count-count.result)) c.in-Some.found c.loop-found.invariant.same c.in-Some.ensures.steps
          (λ ss h. counted_more words_at all c.loop-found.count _ (statement_in c.args.text.now c.in-Some.found) ss (ap (λ (n : ℕ). c.loop-found.count + n) (c.word_count-count.ensures.all c.args.text.now)) h);
    }

pub returns : goal.returns
unfolding words_in
returns c = omega (arith, item_none c.args.text.now c.loop-found.found-iterator c.next.new.self c.loop-found.invariant.left c.loop-found.invariant.same c.in-None.ensures.steps)
