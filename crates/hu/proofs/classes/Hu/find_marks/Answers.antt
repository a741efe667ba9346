use Rattle.std.proofs.Common.{ap, ◌∙◌, arith}
use Rattle.constraints.specs.Lists.{system_of}
use Rattle.constraints.proofs.Sound.{list_valid}
use Rattle.hu.specs.Marks.{gathered}
use Rattle.hu.proofs.Marking.{gathered_mark}
use Rattle.hu.proofs.classes.Hu.find_marks.Goals as goal

pub returns : goal.returns
returns c v k hv hk =
    let s = c.find.new.self in
    let p = c.args.list.now in
    let width = c.find.ensures.count in
    c.mark_rows.ensures v k (omega (arith, width)) hk
    ∙ ap (gathered s.reach.words s.stand.words v k) width
    ∙ gathered_mark (system_of p) (list_valid p) s.reach.words s.stand.words c.find.ensures.reach c.find.ensures.stand v k hv hk
