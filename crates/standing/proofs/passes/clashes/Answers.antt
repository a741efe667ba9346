use Rattle.std.proofs.Common.{ap, ◌∙◌}
use Rattle.books.specs.Books.{is_defined}
use Rattle.names.specs.Held.{notes}
use Rattle.standing.specs.Passes.{clashes_note}
use Rattle.standing.proofs.passes.clashes.Goals as goal

pub returns : goal.returns
returns c =
    let d = c.args.declaration in
    c.is_clash.ensures ∙ ap (clashes_note (is_defined d.linkage) d.slots) (c.find.ensures ∙ ap (notes c.args.names.now) c.bytes_of.ensures)
