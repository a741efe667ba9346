use Rattle.std.proofs.Common.{◌≡◌, ℕ, ◌+◌, ◌<◌, List, length, get_or, take, None, sym, refl, ap, ◌∙◌, arith}
use Rattle.std.proofs.lemmas.List.{length-map, take_all}
use Rattle.units.specs.declared.listing.ListedWord.{ListedWord}
use Rattle.units.specs.Listing.{overlaid}
use Rattle.books.specs.Books.{Units}
use Rattle.books.specs.Listing.{listing_from}
use Rattle.standing.specs.Knowledge.{text_of, texts_in}
use Rattle.standing.specs.Firsts.{firsts_of, unit_listing}
use Rattle.standing.proofs.Refusing.{text_at}
use Rattle.standing.proofs.Listing.{listing_count, listing_room, listing_there}
use Rattle.standing.proofs.lister.list_units.Goals as goal

pub loop-unit-init : goal.loop-unit-init
loop-unit-init c = λ long few. (refl, refl)

pub loop-unit-preserved : goal.loop-unit-preserved
loop-unit-preserved c = λ long few.
    let f = firsts_of c.args.names.now in
    let us = texts_in c.args.texts.now in
    let u = c.loop-unit.unit in
    let inside : u < length c.args.texts.now = omega arith in
    let (count, before) = c.loop-unit.invariant long few in
    let out_long : length c.loop-unit.out ≡ 512 = omega (arith, c.loop-unit.auto.out, long) in
    let here : text_of c.index-texts-unit.result ≡ get_or us u None = sym (text_at c.args.texts.now u c.index-texts-unit.result inside ∙ ap text_of (sym c.index-texts-unit.is)) in
    let same : unit_listing f u (text_of c.index-texts-unit.result) ≡ unit_listing f u (get_or us u None) = ap (unit_listing f u) here in
    let room = listing_room f us u c.loop-unit.from c.loop-unit.out out_long few count before in
    let r : c.list_unit-from.result ≡ c.loop-unit.from + length (unit_listing f u (get_or us u None)) = c.list_unit-from.ensures.after (omega (arith, ap length same, room)) ∙ ap (λ (ls : List ListedWord). c.loop-unit.from + length ls) same in (
      r ∙ listing_count f us u c.loop-unit.from c.loop-unit.out out_long few count before,
      ap (λ (k : ℕ). take k c.list_unit-from.new.out) r ∙ ap (take (c.loop-unit.from + length (unit_listing f u (get_or us u None)))) (c.list_unit-from.ensures.written ∙ ap (overlaid c.loop-unit.out c.loop-unit.from) same)
          ∙ listing_there f us u c.loop-unit.from c.loop-unit.out out_long few count before,
    )

pub returns : goal.returns
returns c = λ long few.
    let (count, all) = c.loop-unit.invariant long few in
    let whole = take_all _ (texts_in c.args.texts.now) (omega (arith, length-map c.args.texts.now text_of)) in
    (count ∙ ap (λ (us : Units). length (listing_from (firsts_of c.args.names.now) 0 us)) whole, all ∙ ap (listing_from (firsts_of c.args.names.now) 0) whole)
