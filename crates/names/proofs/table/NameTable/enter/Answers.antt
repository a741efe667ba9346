use Rattle.std.proofs.Common.{Some, None, sym, ap, ◌∙◌}
use mathlib.Core.Path.{subst₃}
use Rattle.names.specs.Notes.{Updated}
use Rattle.names.specs.Held.{held, notes}
use Rattle.names.proofs.Records.{updated_push}
use Rattle.names.proofs.Sounds.{chosen}
use Rattle.names.proofs.table.NameTable.enter.Goals as goal

pub returns-clause-after : goal.returns-clause-after
returns-clause-after c =
    let t = c.args.self.now in
    let none = ap (notes t) c.new.ensures.named ∙ c.requires in
    subst₃ (Updated (held t)) (sym c.append.ensures.appended) c.new.ensures.named
    (ap Some c.new.ensures.noted ∙ chosen _ _ None c.if-not-takes.ensures) (updated_push (held t) c.new.result none)
