use Rattle.std.proofs.Common.{◌≡◌, refl, ap, ◌∙◌, arith}
use Rattle.constraints.specs.Constraint.{length_of}
use Rattle.constraints.specs.Lists.{system_of}
use Rattle.walks.proofs.Slots.{slot_below}
use Rattle.walks.proofs.slot.Goals as goal

pub overflow_add-result : goal.overflow_add-result
overflow_add-result c =
    let length : c.length_of.result ≡ length_of (system_of c.args.list.now).blocks c.args.o =
    c.length_of.ensures ∙ ap (length_of (system_of c.args.list.now).blocks) c.from.ensures in
    omega (arith, length, slot_below c.args.list.now c.args.o c.args.k (omega (arith, length)))

pub returns-then-k-from : goal.returns-then-k-from
returns-then-k-from c =
    let length : c.length_of.result ≡ length_of (system_of c.args.list.now).blocks c.args.o =
    c.length_of.ensures ∙ ap (length_of (system_of c.args.list.now).blocks) c.from.ensures in
    (refl, omega (arith, length), slot_below c.args.list.now c.args.o c.args.k (omega (arith, length)))
