use Rattle.std.proofs.Common.{[], ◌∷◌, Some, None, sym, refl, ap, ◌∙◌, arith}
use Rattle.grammar.specs.Items.{text_of, offset_of}
use Rattle.grammar.proofs.Items.{item_at}
use Rattle.declarations.specs.Meanings.{declarations_from, declaration_in}
use Rattle.declarations.proofs.Kept.{item_passed, item_found, none_left, all_declarations}
use Rattle.declarations.proofs.cursor.next_declaration.Goals as goal

pub loop-found-init : goal.loop-found-init
loop-found-init c =
    let at = ap offset_of c.into_iter-found-iterator.ensures.into_iter_gives ∙ c.new-found-items.ensures.at in
    record {
      same = ap text_of c.into_iter-found-iterator.ensures.into_iter_gives ∙ c.new-found-items.ensures.text;
      onward = omega (arith, at);
      passed = ap (declarations_from c.args.text.now) (sym at);
    }

pub returns-in-Some-declared : goal.returns-in-Some-declared
returns-in-Some-declared c =
    let text = c.args.text.now in
    let d = c.in-Some-declared.declaration in
    let (read, on, within) = item_at text c.loop-found.found-iterator c.next.new.self (Some c.in-Some.found) c.loop-found.invariant.same c.in-Some.ensures.steps in
    let is = c.in-Some-declared.ensures.is text in
    let end = c.in-Some-declared.ensures.ends in
    record {
      next = item_found text _ c.in-Some.found (declaration_in text d ∷ []) read is c.args.at d c.loop-found.invariant.passed refl end;
      all = all_declarations text;
      onward = (omega (arith, c.loop-found.invariant.onward, on, end), omega (arith, within, end));
    }

pub loop-found-preserved : goal.loop-found-preserved
loop-found-preserved c =
    let text = c.args.text.now in
    let (read, on, within) = item_at text c.loop-found.found-iterator c.next.new.self (Some c.in-Some.found) c.loop-found.invariant.same c.in-Some.ensures.steps in
    record {
      same = c.in-Some.ensures.steps.0 ∙ c.loop-found.invariant.same;
      onward = omega (arith, c.loop-found.invariant.onward, on, c.in-Some.ensures.steps.2);
      passed =
          c.loop-found.invariant.passed ∙ item_passed text _ c.in-Some.found [] read (c.in_default.ensures.is text) refl
          ∙ ap (declarations_from text) (sym c.in-Some.ensures.steps.2);
    }

pub returns : goal.returns
returns c =
    let text = c.args.text.now in
    record {
      next = none_left text c.args.at _ c.loop-found.invariant.passed (item_at text c.loop-found.found-iterator c.next.new.self None c.loop-found.invariant.same c.in-None.ensures.steps);
      all = all_declarations text;
      onward = tt;
    }
