use Rattle.std.proofs.Common.{List, Some, sym, ap, ◌∙◌, subst}
use Rattle.declarations.specs.Declarations.{Entry}
use Rattle.names.specs.Held.{notes}
use Rattle.books.specs.Books.{table}
use Rattle.books.proofs.Counts.{stood_there}
use Rattle.standing.specs.Knowledge.{text_of}
use Rattle.standing.specs.Layout.{Laid}
use Rattle.standing.proofs.Sounds.{was_read}
use Rattle.standing.proofs.Laying.{standing_same, table_more, layable}
use Rattle.standing.proofs.place.place_unit.Goals as goal

pub returns-in-Some-clause-laid : goal.returns-in-Some-clause-laid
returns-in-Some-clause-laid c = λ units there texts knows laid.
    let known = notes c.args.names.now in
    let text = there ∙ ap text_of c.in-Some.is ∙ ap Some (sym c.as_slice.ensures) in
    let admitted = was_read _ (texts.admitted _ (stood_there units c.args.unit _ text)) in
    subst (λ (es : List Entry). Laid units es (notes c.place_names.new.names) c.place_names.new.list) (table_more units c.args.unit _ known texts knows text)
    (c.place_names.ensures.laid units _ text admitted (layable units c.args.unit _ known texts knows text) laid)

pub returns-in_default-clause-laid : goal.returns-in_default-clause-laid
returns-in_default-clause-laid c = λ units there texts knows laid.
    subst (λ (ts : List (List _)). Laid units (table ts) (notes c.args.names.now) c.args.list.now)
    (sym (standing_same units c.args.unit (there ∙ ap text_of c.in_default.is))) laid
