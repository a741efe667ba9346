use Rattle.std.proofs.Common.{List, length, sym, ap, ◌∙◌, arith}
use Rattle.std.specs.List.{flat_map}
use Rattle.grammar.specs.Items.{text_of, offset_of}
use Rattle.grammar.specs.Parse.{Statement}
use Rattle.grammar.specs.Units.{statements_in}
use Rattle.grammar.proofs.Reading.{read_admitted, read_refused, left_from}
use Rattle.grammar.proofs.Items.{item_onward, item_more, item_none}
use Rattle.units.specs.Listing.{listed, listing, overlaid}
use Rattle.units.proofs.Overlay.{Writing, writing_none, writing_more, writing_all}
use Rattle.units.proofs.listing.list_words.Goals as goal

pub returns-then-is_err : goal.returns-then-is_err
unfolding listing
returns-then-is_err g c =
    let none = read_refused c.args.text.now _ c.check_text.ensures (sym c.is_err.ensures.value ∙ c.if-is_err.true) in
    let f = listed (g.N.FirstVariables.first c.args.names.now) c.args.unit in
    record {
      written = sym (ap (λ (ss : List Statement). overlaid c.args.out.now c.args.from (flat_map f ss)) none);
      count = sym (ap (λ (ss : List Statement). length (flat_map f ss)) none);
    }

pub loop-found-init : goal.loop-found-init
loop-found-init g c =
    let read = read_admitted c.args.text.now _ c.check_text.ensures (sym c.is_err.ensures.value ∙ c.if-is_err.false) in
    let at = ap offset_of c.into_iter-found-iterator.ensures.into_iter_gives ∙ c.new-found-items.ensures.at in
    let f = listed (g.N.FirstVariables.first c.args.names.now) c.args.unit in
    record {
      few = omega arith;
      within = omega (arith, at);
      short = read.few;
      same = ap text_of c.into_iter-found-iterator.ensures.into_iter_gives ∙ c.new-found-items.ensures.text;
      left = left_from c.args.text.now _ read _ at (writing_none f (statements_in c.args.text.now) c.args.out.now c.args.from);
    }

pub loop-found-preserved : goal.loop-found-preserved
loop-found-preserved g c =
    let f = listed (g.N.FirstVariables.first c.args.names.now) c.args.unit in
    let all = statements_in c.args.text.now in
    let put = c.list_statement-k.ensures in
    let (same, on, within) = item_onward c.args.text.now c.loop-found.found-iterator c.next.new.self c.in-Some.found c.loop-found.invariant.same c.in-Some.ensures.steps in
    record {
      few = omega (arith, on, c.loop-found.invariant.few, put.few);
      within = within;
      short = c.loop-found.invariant.short;
      same = same;
      left =
          item_more c.args.text.now c.loop-found.found-iterator c.next.new.self c.loop-found.invariant.left (Writing f all c.args.out.now c.args.from c.list_statement-k.result c.list_statement-k.new.out) c.in-Some.found
          c.loop-found.invariant.same c.in-Some.ensures.steps
          (λ ss h. writing_more f all c.args.out.now c.args.from c.loop-found.k c.list_statement-k.result c.loop-found.out c.list_statement-k.new.out _ ss put.written put.count h);
    }

pub returns : goal.returns
unfolding listing
returns g c =
    let f = listed (g.N.FirstVariables.first c.args.names.now) c.args.unit in
    let all = statements_in c.args.text.now in
    let left = item_none c.args.text.now c.loop-found.found-iterator c.next.new.self c.loop-found.invariant.left c.loop-found.invariant.same c.in-None.ensures.steps in
    let (written, count) = writing_all f all c.args.out.now c.args.from c.loop-found.k c.loop-found.out left in
    record { written = written; count = count }
