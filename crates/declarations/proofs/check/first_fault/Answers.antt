use Rattle.std.proofs.Common.{ℕ, List, length, Some, sym, ap, ◌∙◌, subst, arith}
use Rattle.declarations.proofs.Checking.{Passed, first_inside, passed_none, passed_wrong, passed_more, passed_all}
use Rattle.declarations.proofs.check.first_fault.Goals as goal

pub loop-k-init : goal.loop-k-init
loop-k-init c =
    let text = c.args.names.now.text.now in
    let ms = c.args.names.now.mentions.now in
    let first = c.args.first.now in
    subst (λ (s : List ℕ). Passed text ms first s 0) (sym (c.fill.ensures.after (λ y e. e))) (passed_none text ms first c.requires.numbered (length c.args.sizes.now) c.requires.room)

pub bounds-sizes-at : goal.bounds-sizes-at
bounds-sizes-at c =
    rw c.from-at.ensures
    (first_inside c.args.names.now.text.now c.args.names.now.mentions.now c.args.first.now c.requires.numbered c.loop-k.k _ c.loop-k-test.true (omega (arith, c.requires.room)))

pub bounds-sizes-at-in-loop-k : goal.bounds-sizes-at-in-loop-k
bounds-sizes-at-in-loop-k c =
    rw c.from-at.ensures
    (first_inside c.args.names.now.text.now c.args.names.now.mentions.now c.args.first.now c.requires.numbered c.loop-k.k _ c.loop-k-test.true (omega (arith, c.requires.room)))

pub returns-then-not-is_right : goal.returns-then-not-is_right
returns-then-not-is_right c =
    let text = c.args.names.now.text.now in
    let ms = c.args.names.now.mentions.now in
    ap Some (c.offset.ensures text)
    ∙ passed_wrong text ms c.args.first.now c.requires.numbered c.loop-k.sizes c.loop-k.k _ c.loop-k-test.true c.loop-k.invariant c.from-at.result c.is_right.result c.from-at.ensures c.is_right.ensures c.if-not-is_right.true

pub loop-k-preserved : goal.loop-k-preserved
loop-k-preserved c =
    let text = c.args.names.now.text.now in
    let ms = c.args.names.now.mentions.now in
    passed_more text ms c.args.first.now c.requires.numbered c.loop-k.sizes c.loop-k.k _ c.loop-k-test.true c.loop-k.invariant c.from-at.result c.is_right.result c.size_after.result
    c.from-at.ensures c.is_right.ensures c.if-not-is_right.false c.size_after.ensures (omega (arith, c.loop-k-test.true, c.requires.room))

pub returns : goal.returns
returns c =
    passed_all c.args.names.now.text.now c.args.names.now.mentions.now c.args.first.now c.requires.numbered c.loop-k.sizes c.loop-k.k c.loop-k-test.false c.loop-k.invariant
