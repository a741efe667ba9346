use Rattle.std.proofs.Common.{rules, ◌≡◌, arith}
use Rattle.rows.specs.declared.Added.TheVariants.{New}
use Rattle.rows.proofs.Counts.{total_below}
use Rattle.walks.proofs.Puts.{put_new}
use Rattle.difference.specs.Notes.{noted_new}
use Rattle.difference.proofs.DifferenceGrower.add.Goals as goal

pub returns-then-eq : goal.returns-then-eq
returns-then-eq g c =
    let v = c.args.v in
    let o = c.args.o in
    let new : c.in_ok-put.field-0 ≡ New = search rules in
    let (fresh, after, inside, less) = rw new at c.in_ok-put.ensures.does in
    let few = total_below (g.S.RowStore.pairs c.args.self.now.store) v o c.requires.variable c.requires.object fresh in
    put_new _ _ _ _ _ v o c.requires.variable c.requires.object fresh after less c.put.ensures.fixed
    (λ counted. noted_new _ v o _ _ _ _ c.requires.variable c.requires.object fresh after (c.push.ensures (omega (arith, counted, few))))
