use Rattle.std.proofs.Common.{◌≡◌, ◌+◌, ◌<◌, Some, ap, ◌∙◌, arith}
use Rattle.names.specs.Held.{notes}
use Rattle.books.specs.Tables.{first_of}
use Rattle.standing.specs.Knowledge.{size_in}
use Rattle.standing.specs.Firsts.{first_in}
use Rattle.standing.proofs.Looking.{laid_at, cell_below, cell_there, ok_if}
use Rattle.standing.proofs.lookup.cell_variable.Goals as goal

pub returns : goal.returns
returns c = λ es places.
    let known = notes c.args.names.now in
    let n = c.args.name.now in
    let k = c.args.slot in
    let inside : k < size_in (known n) = omega (arith, ap size_in c.in_ok-note.ensures, c.if-slot-from.false, c.from.ensures) in
    let there = laid_at es known n k places (omega (arith, inside)) in
    let noted = ap first_in c.in_ok-note.ensures in
    let was = c.in_ok-note-2.was in
    let first : c.in_ok-note-2.field-0 ≡ first_of es n = cc in
    let below = cell_below es known n k places (omega (arith, inside)) in
    let sum : c.saturating_add.result ≡ first_of es n + k = omega (arith, c.saturating_add.ensures, first, below) in
    c.ok.ensures.value ∙ ok_if c.try_from.result _ _ c.try_from.ensures (omega (arith, sum, below))
    ∙ ap Some sum ∙ cell_there es known n k places (omega (arith, inside))
