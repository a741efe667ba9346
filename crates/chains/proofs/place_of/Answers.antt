use Rattle.std.proofs.Common.{Some, refl, sym, ap, ◌∙◌, arith}
use Rattle.chains.specs.Cells.{object_of, above}
use Rattle.chains.proofs.Reach.{none_some, object_end, reach_zero}
use Rattle.chains.proofs.Walks.{place_step}
use Rattle.chains.proofs.place_of.Goals as goal

pub loop-after-init : goal.loop-after-init
loop-after-init c = (omega arith, reach_zero c.args.cells.now c.args.head, λ ne. absurd (ne refl))

pub bounds-cells-from : goal.bounds-cells-from
bounds-cells-from c =
    let inv = c.loop-after.invariant in
    let inside = (c.requires (above c.args.cells.now c.loop-after.before) (omega arith)).1 c.in-Some.at (inv.1 ∙ c.in-Some.is) in
    omega (arith, inside, c.from.ensures)

pub loop-after-smaller : goal.loop-after-smaller
loop-after-smaller c =
    let cs = c.args.cells.now in
    let inv = c.loop-after.invariant in
    let passed = c.requires (above cs c.loop-after.before) (omega arith) in
    let same = ap (object_of cs) (inv.1 ∙ c.in-Some.is) in
    let less = rw c.from.ensures at c.if-cell-object.false in
    omega (arith, passed.0, same, less)

pub loop-after-preserved : goal.loop-after-preserved
loop-after-preserved c =
    let cs = c.args.cells.now in
    let at = c.in-Some.at in
    let inv = c.loop-after.invariant in
    let here = inv.1 ∙ c.in-Some.is in
    let passed = c.requires (above cs c.loop-after.before) (omega arith) in
    let same = ap (object_of cs) here in
    let less = rw c.from.ensures at c.if-cell-object.false in
    let on = rw c.from.ensures at c.next-after.ensures in
    let stepped = place_step cs c.args.head c.args.object c.loop-after.before (Some at) here (λ e. none_some (sym e)) (omega (arith, passed.0, same)) less in
    (stepped.0, stepped.1 ∙ sym on, stepped.2)

pub returns-then-cell-object : goal.returns-then-cell-object
returns-then-cell-object c =
    let inv = c.loop-after.invariant in
    let more = rw c.from.ensures at c.if-cell-object.true in
    record { low = inv.0; high = more; here = inv.1 ∙ c.in-Some.is; prior = inv.2 }

pub returns-in_default : goal.returns-in_default
returns-in_default c =
    let inv = c.loop-after.invariant in
    record { low = inv.0; high = omega (arith, object_end c.args.cells.now c.loop-after.after c.in_default.is); here = inv.1; prior = inv.2 }
