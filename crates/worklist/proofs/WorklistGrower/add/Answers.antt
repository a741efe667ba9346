use Rattle.std.proofs.Common.{rules, ◌≡◌}
use Rattle.constraints.specs.Lists.{system_of}
use Rattle.rows.specs.declared.Added.TheVariants.{New}
use Rattle.walks.proofs.Puts.{put_new}
use Rattle.worklist.specs.Notes.{noted_new}
use Rattle.worklist.proofs.WorklistGrower.add.Goals as goal

pub returns-then-eq : goal.returns-then-eq
returns-then-eq g c =
    let new : c.in_ok-put.field-0 ≡ New = search rules in
    let (fresh, after, inside, less) = rw new at c.in_ok-put.ensures.does in
    put_new _ _ _ _ _ c.args.v c.args.o c.requires.variable c.requires.object fresh after less c.put.ensures.fixed
    (noted_new (system_of c.args.list.now) _ c.args.v c.args.o _ _ _ _ c.requires.variable c.requires.object fresh after c.mark.ensures)
