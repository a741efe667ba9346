use Rattle.std.proofs.Common.{sym, ap, ◌∙◌}
use Rattle.names.specs.Held.{notes}
use Rattle.names.proofs.Sounds.{is_sound, known_at}
use Rattle.names.proofs.table.NameTable.find.Goals as goal

pub returns : goal.returns
returns c =
    let t = c.args.self.now in
    let at = c.in_ok-p.ensures in
    sym (known_at (is_sound t.sound) c.in_ok-p.p at.0 c.index-self-p.result) ∙ ap (notes t) at.1
