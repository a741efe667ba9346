use Rattle.constraints.specs.Lists.{system_of}
use Rattle.constraints.proofs.Sound.{list_valid}
use Rattle.hu.proofs.classes.HuMerge.classify.Goals as goal

pub returns : goal.returns
returns c =
    let p = c.args.list.now in
    c.number_marks.ensures (system_of p) (list_valid p) c.find_marks.ensures
