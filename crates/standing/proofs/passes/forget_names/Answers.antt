use Rattle.std.proofs.Common.{sym, refl, ap, ◌∙◌}
use Rattle.standing.specs.Cursors.{text_read, offset_of}
use Rattle.standing.proofs.Rests.{rest_all, rest_here, rest_none, rest_then}
use Rattle.standing.proofs.Steps.{forget_more}
use Rattle.standing.proofs.passes.forget_names.Goals as goal

pub loop-found-init : goal.loop-found-init
loop-found-init c = (
  ap text_read c.into_iter-found-iterator.ensures.into_iter_gives ∙ c.new-found-items.ensures.text,
  rest_all c.args.text.now _ _ c.requires (ap offset_of c.into_iter-found-iterator.ensures.into_iter_gives ∙ c.new-found-items.ensures.start) refl,
)

pub loop-found-preserved : goal.loop-found-preserved
loop-found-preserved c = (
  c.in-Some.ensures.steps.same ∙ c.loop-found.invariant.0,
  rest_then _ (rest_here c.loop-found.invariant.1 c.loop-found.invariant.0 c.in-Some.found c.in-Some.ensures.steps)
      (λ ds h. h ∙ forget_more c.args.text.now c.in-Some.found _ c.bytes_of.ensures c.loop-found.names c.forget.new.self _ c.is_definition.ensures c.forget.ensures.after ds),
)

pub returns : goal.returns
returns c = sym (rest_none c.loop-found.invariant.1 c.loop-found.invariant.0 c.in-None.ensures.steps)
