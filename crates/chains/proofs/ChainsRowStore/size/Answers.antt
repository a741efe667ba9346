use Rattle.std.proofs.Common.{◌≡◌, ◌<◌, sym, ◌∙◌, arith}
use Rattle.std.proofs.lemmas.Bool.Decides.{nat_tests}
use Rattle.chains.proofs.Chained.{count_row}
use Rattle.chains.proofs.ChainsRowStore.size.Goals as goal

pub returns : goal.returns
returns c =
    let s = c.args.self.now in
    let row : c.in_ok-row.row ≡ c.args.v = grind (arith, nat_tests) in
    let inside : c.args.v < 256 = grind (arith, nat_tests) in
    (c.length_of.ensures ∙ rw (c.deref.ensures.value, c.from.ensures, row) (sym (count_row s.cells.items s.heads c.args.v inside)), inside)
