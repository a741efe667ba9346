use Rattle.std.proofs.Common.{◌≡◌, Some, sym, ap, ◌∙◌, take, is_some, subst}
use Rattle.std.specs.Fn.{FnOnceReturnsAtMut}
use Rattle.names.specs.Notes.{Updated, name_in}
use Rattle.names.specs.Tables.{Sound}
use Rattle.names.specs.Held.{held, notes}
use Rattle.names.proofs.Sounds.{is_sound, known_at, updated_at, sound_at, changed_known}
use Rattle.names.proofs.table.NameTable.update.Goals as goal

pub invariant_of-self : goal.invariant_of-self
invariant_of-self g c =
    let t = c.args.self.now in
    let found = c.in-Some.ensures in
    let changed = c.change_record.ensures in
    let before = changed.0 in
    let after = changed.1 in
    let same = c.requires.same before after changed.3 in
    let s = sound_at (is_sound t.sound) c.in-Some.p found.0 before after
    (same.named ∙ ap (λ r. name_in r) changed.2) (same.slots ∙ ap (λ r. r.note.slots) changed.2) in
    record { sound = ∣ subst (λ rs. Sound rs t.used t.variables t.heads t.links) (sym changed.4) s ∣₁ }

pub returns-clause-known : goal.returns-clause-known
returns-clause-known g c =
    let t = c.args.self.now in
    let found = c.in-Some.ensures in
    ap is_some (sym (known_at (is_sound t.sound) c.in-Some.p found.0 c.change_record.ensures.0) ∙ ap (notes t) found.1)

pub returns-clause-after : goal.returns-clause-after
returns-clause-after g c =
    let t = c.args.self.now in
    let found = c.in-Some.ensures in
    let changed = c.change_record.ensures in
    let before = changed.0 in
    let after = changed.1 in
    let same = c.requires.same before after changed.3 in
    let known : notes t c.args.name.now ≡ Some before.note =
    ap (notes t) (sym found.1) ∙ known_at (is_sound t.sound) c.in-Some.p found.0 before ∙ ap (λ r. Some r.note) (sym changed.2) in
    changed_known (held t) _ c.args.name.now (FnOnceReturnsAtMut g.F.FnOnce c.args.change) before after known changed.3
    (subst (λ rs. Updated (held t) (take t.used rs) c.args.name.now (Some after.note)) (sym changed.4)
    (updated_at (is_sound t.sound) c.in-Some.p found.0 before after (same.named ∙ ap (λ r. name_in r) changed.2) c.args.name.now found.1))
