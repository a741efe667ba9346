use Rattle.std.proofs.Common.{ap, ◌∙◌, arith}
use Rattle.grammar.specs.Items.{text_of, offset_of}
use Rattle.declarations.specs.Listed.{listed}
use Rattle.declarations.proofs.Checking.{noting_none, noting_few, noting_more, noting_all}
use Rattle.declarations.proofs.check.note_all.Goals as goal

pub loop-found-init : goal.loop-found-init
loop-found-init c =
    record {
      same = ap text_of c.into_iter-found-iterator.ensures.into_iter_gives ∙ c.new-found-items.ensures.text;
      noting = noting_none c.args.text.now c.requires _ _ (ap offset_of c.into_iter-found-iterator.ensures.into_iter_gives ∙ c.new-found-items.ensures.at) c.clear.ensures;
    }

pub note_item-requires : goal.note_item-requires
note_item-requires c =
    omega (arith, noting_few c.args.text.now c.requires (listed c.loop-found.mentions) c.loop-found.found-iterator c.next.new.self c.loop-found.invariant.same c.loop-found.invariant.noting)

pub loop-found-preserved : goal.loop-found-preserved
loop-found-preserved c =
    let text = c.args.text.now in
    record {
      same = c.in-Some.ensures.steps.0 ∙ c.loop-found.invariant.same;
      noting =
          noting_more text c.requires (listed c.loop-found.mentions) c.loop-found.found-iterator c.next.new.self c.loop-found.invariant.same c.loop-found.invariant.noting c.in-Some.found _
          c.in-Some.ensures.steps (c.note_item.ensures.all text);
    }

pub returns : goal.returns
returns c =
    let text = c.args.text.now in
    record {
      few = noting_few text c.requires (listed c.loop-found.mentions) c.loop-found.found-iterator c.next.new.self c.loop-found.invariant.same c.loop-found.invariant.noting;
      all = noting_all text c.requires (listed c.loop-found.mentions) c.loop-found.found-iterator c.next.new.self c.loop-found.invariant.same c.loop-found.invariant.noting c.in-None.ensures.steps;
    }
