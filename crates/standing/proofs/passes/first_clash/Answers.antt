use Rattle.std.proofs.Common.{◌≡◌, sym, ap, ◌∙◌, rules}
use Rattle.std.specs.Option.{option_map}
use Rattle.std.proofs.lemmas.Iterator.Search.{find_from_yields_List}
use Rattle.declarations.specs.declared.cursor.Declaration.{Declaration}
use Rattle.declarations.specs.Declarations.{declarations_in, offset_of as mention_offset}
use Rattle.declarations.specs.Meanings.{declarations_from}
use Rattle.declarations.proofs.Kept.{all_declarations}
use Rattle.names.specs.Held.{notes}
use Rattle.standing.specs.Passes.{clashes_known}
use Rattle.standing.proofs.Yields.{declarations_yield, first_found, offset_found}
use Rattle.standing.proofs.passes.first_clash.Goals as goal

pub returns : goal.returns
returns c =
    let text = c.args.text.now in
    let test = clashes_known (notes c.args.names.now) in
    let read = ap (declarations_from text) c.new.ensures.start ∙ (all_declarations text).whole c.requires in
    let items = declarations_yield text c.new.result (declarations_in text) c.new.ensures.text read in
    let is = find_from_yields_List test _ _ c.find.result c.find.ensures.ran items (λ x b q k. search (rules, k)) in
    let kept : c.map.result ≡ option_map (λ (d : Declaration). d.name.from) c.find.result = search (rules) in
    kept ∙ sym (offset_found text c.find.result) ∙ ap (option_map mention_offset) is ∙ sym (first_found test (declarations_in text))
