use Rattle.std.proofs.Common.{List, sym, refl, ap, ◌∙◌, subst}
use Rattle.declarations.specs.Declarations.{Entry}
use Rattle.names.specs.Held.{notes}
use Rattle.standing.specs.Layout.{Laid, lay_entry}
use Rattle.standing.specs.Cursors.{text_read, offset_of}
use Rattle.standing.proofs.Rests.{rest_all, rest_here, rest_none, rest_then}
use Rattle.standing.proofs.Placing.{same_then}
use Rattle.standing.proofs.Laying.{fits_one, lay_here, can_more}
use Rattle.standing.proofs.place.place_names.Goals as goal

pub loop-found-init : goal.loop-found-init
loop-found-init c = (
  ap text_read c.into_iter-found-iterator.ensures.into_iter_gives ∙ c.new-found-items.ensures.text,
  record { sizes = λ n. refl; counts = λ n. refl; defined = λ n. refl },
  λ units es there admitted can laid. rest_all c.args.text.now _ _ admitted (ap offset_of c.into_iter-found-iterator.ensures.into_iter_gives ∙ c.new-found-items.ensures.start) (es, laid, can, refl),
)

pub loop-found-preserved : goal.loop-found-preserved
loop-found-preserved c =
    let text = c.args.text.now in
    let known = notes c.loop-found.names in
    let after = notes c.place_name.new.names in
    let same = c.place_name.ensures.same in (
      c.in-Some.ensures.steps.same ∙ c.loop-found.invariant.0,
      same_then c.loop-found.invariant.1 same,
      λ units es there admitted can laid.
          rest_then _ (rest_here (c.loop-found.invariant.2 units es there admitted can laid) c.loop-found.invariant.0 c.in-Some.found c.in-Some.ensures.steps)
          (λ ds h.
          let (fs, laid-so-far, can-here, all) = h in
          let fits = fits_one units fs text c.args.unit c.in-Some.found ds _ known there c.bytes_of.ensures can-here in
          let next = can_more units fs text c.args.unit c.in-Some.found ds _ known there c.bytes_of.ensures can-here after same in
          let step = lay_here units fs text c.args.unit c.in-Some.found ds _ known there c.bytes_of.ensures can-here in
          (lay_entry fs (record { name = c.bytes_of.result.now; slots = c.in-Some.found.slots }), c.place_name.ensures.laid units fs c.in-Some.found.slots fits laid-so-far, next, sym step ∙ all)),
    )

pub returns : goal.returns
returns c =
    record {
      same = c.loop-found.invariant.1;
      laid = λ units es there admitted can laid.
          let (fs, laid-all, can-none, all) = rest_none (c.loop-found.invariant.2 units es there admitted can laid) c.loop-found.invariant.0 c.in-None.ensures.steps in
          subst (λ (gs : List Entry). Laid units gs (notes c.loop-found.names) c.loop-found.list) all laid-all;
    }
