use Rattle.std.proofs.Common.{Some, None, sym, ◌∙◌}
use Rattle.constraints.specs.Least.{least}
use Rattle.host_analyser.proofs.Objects.{still_next, share_none_second, share_none_first, share_some}
use Rattle.host_analyser.proofs.asking.share_object.Goals as goal

pub returns-in_default-next_object-clause-answer : goal.returns-in_default-next_object-clause-answer
returns-in_default-next_object-clause-answer g c one other =
    let m = g.E.Engine.meaning c.args.engine.now in
    let row = least m.system in
    let inv = c.loop-o.invariant in
    let from = c.loop-o.from in
    let o = c.in-Some.o in
    share_none_second (row c.args.v) (row c.args.w) from o (inv.1 one other)
    (still_next m c.args.v from _ (Some o) inv.0 one c.in-Some.ensures.found)
    (still_next m c.args.w o _ None (c.next_object.ensures.stays ∙ inv.0) other c.in_default-next_object.ensures.found)

pub returns-then-p-o-clause-answer : goal.returns-then-p-o-clause-answer
returns-then-p-o-clause-answer g c one other =
    let m = g.E.Engine.meaning c.args.engine.now in
    let row = least m.system in
    let inv = c.loop-o.invariant in
    let from = c.loop-o.from in
    let o = c.in-Some.o in
    let p = c.in-Some-next_object.p in
    share_some (row c.args.v) (row c.args.w) from o p (sym c.if-p-o.true)
    (still_next m c.args.v from _ (Some o) inv.0 one c.in-Some.ensures.found)
    (still_next m c.args.w o _ (Some p) (c.next_object.ensures.stays ∙ inv.0) other c.in-Some-next_object.ensures.found)

pub returns-clause-answer : goal.returns-clause-answer
returns-clause-answer g c one other =
    let m = g.E.Engine.meaning c.args.engine.now in
    let row = least m.system in
    let inv = c.loop-o.invariant in
    share_none_first (row c.args.v) (row c.args.w) c.loop-o.from (inv.1 one other)
    (still_next m c.args.v c.loop-o.from _ None inv.0 one c.in_default.ensures.found)
