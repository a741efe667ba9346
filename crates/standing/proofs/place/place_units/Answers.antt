use Rattle.std.proofs.Common.{◌<◌, length, sym, refl, ap, ◌∙◌, subst, arith}
use Rattle.std.proofs.lemmas.List.{length-map, take_all}
use Rattle.names.specs.Held.{notes}
use Rattle.books.specs.Books.{Units, standing, table}
use Rattle.standing.specs.Knowledge.{text_of, texts_in}
use Rattle.standing.specs.Layout.{Laid}
use Rattle.standing.proofs.Refusing.{text_at}
use Rattle.standing.proofs.Placing.{same_then, same_knows}
use Rattle.standing.proofs.place.place_units.Goals as goal

pub loop-unit-init : goal.loop-unit-init
unfolding table
loop-unit-init c = (record { sizes = λ n. refl; counts = λ n. refl; defined = λ n. refl }, λ all knows laid. laid)

pub loop-unit-preserved : goal.loop-unit-preserved
loop-unit-preserved c =
    let texts = c.args.texts.now in
    let u = c.loop-unit.unit in
    let inside : u < length texts = omega arith in (
      same_then c.loop-unit.invariant.0 c.place_unit.ensures.same,
      λ all knows laid. c.place_unit.ensures.laid (texts_in texts) (text_at texts u c.index-texts-unit.result inside ∙ ap text_of (sym c.index-texts-unit.is)) all (same_knows c.loop-unit.invariant.0 knows) (c.loop-unit.invariant.1 all knows laid),
    )

pub returns : goal.returns
returns c =
    let texts = c.args.texts.now in
    record {
      same = c.loop-unit.invariant.0;
      laid = λ all knows laid.
          subst (λ (us : Units). Laid (texts_in texts) (table (standing us)) (notes c.loop-unit.names) c.loop-unit.list) (take_all _ (texts_in texts) (omega (arith, length-map texts text_of))) (c.loop-unit.invariant.1 all knows laid);
    }
