use Rattle.std.proofs.Common.{◌+◌, sym, ap, ◌∙◌, arith}
use Rattle.chains.specs.Cells.{object_of, link_of, reach, in_row}
use Rattle.constraints.proofs.Finite.{count_bound}
use Rattle.rows.proofs.Counts.{count_none}
use Rattle.chains.proofs.Reach.{reach_zero, goes_on}
use Rattle.chains.proofs.Walks.{count_past, count_end}
use Rattle.chains.proofs.length_of.Goals as goal

pub loop-next-init : goal.loop-next-init
loop-next-init c = (0, omega arith, reach_zero c.args.cells.now c.args.head, sym (count_none (in_row c.args.cells.now c.args.head)))

pub overflow_add-n : goal.overflow_add-n
overflow_add-n c = omega (arith, count_bound c.loop-next.invariant.0 (in_row c.args.cells.now c.args.head))

pub bounds-cells-from : goal.bounds-cells-from
bounds-cells-from c =
    let inside = (c.requires c.loop-next.invariant.0 (omega arith)).1 c.in-Some.at (c.loop-next.invariant.2 ∙ c.in-Some.is) in
    omega (arith, inside, c.from.ensures)

pub loop-next-smaller : goal.loop-next-smaller
loop-next-smaller c =
    let cs = c.args.cells.now in
    let h = c.args.head in
    let lo = c.loop-next.invariant.0 in
    let at = c.loop-next.invariant.2 in
    let here = c.requires lo (omega arith) in
    let bound = here.1 c.in-Some.at (at ∙ c.in-Some.is) in
    let next = c.requires (object_of cs (reach cs h lo) + 1) (omega arith) in
    let told = rw c.from.ensures at c.next-next.ensures in
    let on = goes_on cs h lo here.0 ∙ ap (link_of cs) (at ∙ c.in-Some.is) ∙ sym told in
    omega (arith, bound.1, next.0, ap (object_of cs) at, ap (object_of cs) on)

pub loop-next-preserved : goal.loop-next-preserved
loop-next-preserved c =
    let cs = c.args.cells.now in
    let h = c.args.head in
    let lo = c.loop-next.invariant.0 in
    let at = c.loop-next.invariant.2 in
    let here = c.requires lo (omega arith) in
    let bound = here.1 c.in-Some.at (at ∙ c.in-Some.is) in
    let told = rw c.from.ensures at c.next-next.ensures in (
      object_of cs (reach cs h lo) + 1,
      omega arith,
      goes_on cs h lo here.0 ∙ ap (link_of cs) (at ∙ c.in-Some.is) ∙ sym told,
      omega (arith, count_past cs h lo here.0),
    )

pub returns : goal.returns
returns c =
    let lo = c.loop-next.invariant.0 in
    c.loop-next.invariant.3 ∙ sym (count_end c.args.cells.now c.args.head lo c.loop-next.invariant.1 (c.loop-next.invariant.2 ∙ c.in_default.is))
