use Rattle.std.proofs.Common.{refl, sym}
use Rattle.names.proofs.record.change_record.Goals as goal

pub returns : goal.returns
returns g c =
    let is = c.index-records-p.is in
    (c.index-records-p.result, c.change.new.arg2, is, record { shown = _; shows = sym is; left = _; met = c.change.ensures; leaves = refl }, refl)
