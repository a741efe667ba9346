use Rattle.std.proofs.Common.{take, ap, ◌∙◌, subst, sym, arith}
use Rattle.names.specs.Notes.{note_of, total, width}
use Rattle.names.specs.Tables.{Sound}
use Rattle.names.specs.Held.{held}
use Rattle.names.proofs.Sounds.{is_sound}
use Rattle.names.proofs.Rewriting.{unplaced_in_use, unplaced_notes, unplaced_widths, sound_unplaced}
use Rattle.names.proofs.table.NameTable.unplace_all.Goals as goal

pub unplace_first-requires : goal.unplace_first-requires
unplace_first-requires c = let s = is_sound c.args.self.now.sound in omega (arith, s.few, s.long)

pub invariant_of-self : goal.invariant_of-self
invariant_of-self c =
    let t = c.args.self.now in
    record { sound = ∣ subst (λ rs. Sound rs t.used t.variables t.heads t.links) (sym c.unplace_first.ensures) (sound_unplaced (is_sound t.sound)) ∣₁ }

pub returns-clause-after : goal.returns-clause-after
returns-clause-after c = λ n.
    let t = c.args.self.now in
    ap (λ rs. note_of (take t.used rs) n) c.unplace_first.ensures ∙ ap (λ rs. note_of rs n) (unplaced_in_use (is_sound t.sound)) ∙ unplaced_notes (held t) n

pub returns-clause-variables : goal.returns-clause-variables
returns-clause-variables c =
    let t = c.args.self.now in
    ap (λ rs. total width (take t.used rs)) c.unplace_first.ensures ∙ ap (total width) (unplaced_in_use (is_sound t.sound)) ∙ unplaced_widths (held t)
