use Rattle.std.proofs.Common.{sym, refl, ap, ◌∙◌, subst}
use Rattle.std.specs.List.{AllByRecursion}
use Rattle.std.proofs.lemmas.Bool.{false≢true}
use Rattle.declarations.proofs.Kept.{all_declarations}
use Rattle.books.specs.Counts.{Short}
use Rattle.books.proofs.Legal.{names_are_short}
use Rattle.standing.specs.Cursors.{text_read, offset_of}
use Rattle.standing.proofs.Rests.{rest_all, rest_here, rest_none, rest_then}
use Rattle.standing.proofs.Steps.{err_not_ok, fit_more, enter_more, fit_no_more}
use Rattle.standing.proofs.passes.enter_names.Goals as goal

pub loop-found-init : goal.loop-found-init
loop-found-init c = (
  ap text_read c.into_iter-found-iterator.ensures.into_iter_gives ∙ c.new-found-items.ensures.text,
  rest_all c.args.text.now _ _ c.requires (ap offset_of c.into_iter-found-iterator.ensures.into_iter_gives ∙ c.new-found-items.ensures.start) (subst (AllByRecursion Short) (all_declarations c.args.text.now).entries (names_are_short c.args.text.now), refl, refl),
)

pub loop-found-preserved : goal.loop-found-preserved
loop-found-preserved c =
    let call = c.mention in (
      c.in-Some.ensures.steps.same ∙ c.loop-found.invariant.0,
      rest_then _ (rest_here c.loop-found.invariant.1 c.loop-found.invariant.0 c.in-Some.found c.in-Some.ensures.steps)
          (λ ds h.
          let step = fit_more c.args.text.now c.in-Some.found _ c.bytes_of-name.ensures c.loop-found.names call.new.self _ call.result c.is_definition.ensures call.ensures.reply call.ensures.after call.ensures.variables ds c.in_ok-mention.was in
          let entered = enter_more c.args.text.now c.in-Some.found _ c.bytes_of-name.ensures c.loop-found.names call.new.self _ call.result c.is_definition.ensures call.ensures.reply call.ensures.after call.ensures.variables ds in
          (h.0.1, h.1 ∙ step, h.2 ∙ entered)),
    )

pub returns-in_err-mention : goal.returns-in_err-mention
returns-in_err-mention c =
    let call = c.mention in
    let here = rest_here c.loop-found.invariant.1 c.loop-found.invariant.0 c.in-Some.found c.in-Some.ensures.steps in
    let refused = err_not_ok _ c.from_residual.ensures.0 in
    record {
      fits = refused ∙ sym (here.holds.1 ∙ fit_no_more c.args.text.now c.in-Some.found _ c.bytes_of-name.ensures c.loop-found.names call.new.self _ call.result c.is_definition.ensures call.ensures.reply here.rest _ c.in_err-mention.was);
      after = λ ok. absurd (false≢true (sym refused ∙ ok));
    }

pub returns : goal.returns
returns c =
    let (short, fits, entered) = rest_none c.loop-found.invariant.1 c.loop-found.invariant.0 c.in-None.ensures.steps in
    record { fits = sym fits; after = λ ok. sym entered }
