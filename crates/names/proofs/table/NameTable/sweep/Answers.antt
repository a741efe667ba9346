use Rattle.std.proofs.Common.{◌≡◌, ℕ, ◌+◌, ◌<◌, ◌≤◌, take, get_or, subst, sym, refl, ap, ◌∙◌, arith}
use Rattle.std.proofs.lemmas.List.{take_all, get_or-take}
use Rattle.names.specs.Notes.{standing, width, Rewritten}
use Rattle.names.specs.declared.record.NameRecord.{NameRecord}
use Rattle.names.specs.declared.table.NameTable.{NameTable}
use Rattle.names.specs.Held.{held}
use Rattle.names.proofs.Records.{rewritten_none}
use Rattle.names.proofs.Sounds.{is_sound, used_long, sound_none}
use Rattle.names.proofs.Rewriting.{sweep_new, sweep_room, sweep_dropped, sweep_kept}
use Rattle.names.proofs.table.NameTable.sweep.Goals as goal
use Rattle.names.proofs.table.NameTable.sweep.Goals.{then-stands, else-stands}

pub invariant_of-self : goal.invariant_of-self
invariant_of-self c =
    let t = c.args.self.now in
    let s = is_sound t.sound in
    record { sound = ∣ sound_none t.records t.links s.long s.index.places ∣₁ }

pub bounds-self-i : goal.bounds-self-i
bounds-self-i c = omega (arith, (is_sound c.args.self.now.sound).few, c.loop-i-test.true)

pub offset_bounds-self-i : goal.offset_bounds-self-i
offset_bounds-self-i c = omega (arith, (is_sound c.args.self.now.sound).few, c.loop-i-test.true)

pub listed : goal.listed
listed c = omega (arith, (is_sound c.args.self.now.sound).few, c.loop-i-test.true, (is_sound c.loop-i.self.sound).long)

pub loop-i-init : goal.loop-i-init
loop-i-init c = record { within = omega arith; done = rewritten_none standing; rest = λ j d le lt. refl }

pub append-requires : goal.append-requires
append-requires c =
    let t = c.args.self.now in
    let s = is_sound t.sound in
    let i = c.loop-i.i in
    let inv = c.loop-i.invariant in
    let h = c.loop-i-test.true in
    let d = c.index-self-i.result in
    let r = get_or c.loop-i.self.records i d in
    let at : r ≡ get_or (held t) i r = inv.rest i d (omega arith) h ∙ ap (get_or t.records i) c.index-self-i.is ∙ sym (get_or-take t.used t.records i r h) in
    record {
      unknown = sweep_new s (held c.loop-i.self) i inv.done h r at;
      room = sweep_room s (held c.loop-i.self) i inv.done h r at;
    }

pub loop-i-preserved : goal.loop-i-preserved
loop-i-preserved c =
    let t = c.args.self.now in
    let s = is_sound t.sound in
    let i = c.loop-i.i in
    let inv = c.loop-i.invariant in
    let h = c.loop-i-test.true in
    let d = c.index-self-i.result in
    let r = get_or c.loop-i.self.records i d in
    let at : r ≡ get_or (held t) i r = inv.rest i d (omega arith) h ∙ ap (get_or t.records i) c.index-self-i.is ∙ sym (get_or-take t.used t.records i r h) in
    let Next : NameTable → Type 0 = λ u.
    record {
      within : u.used ≤ i + 1;
      done : Rewritten (take (i + 1) (held t)) (held u) standing;
      rest : (j : ℕ) (d : NameRecord) → i + 1 ≤ j → j < t.used → get_or u.records j d ≡ get_or t.records j d;
    } in
    elim c.if-stands.branch [
      | then-stands w ↦
          let more = w.append.ensures in
          subst Next (sym w.self-is)
          (record {
            within = omega (arith, more.used, inv.within);
            done = sweep_kept s (held c.loop-i.self) i inv.done h r at w.if-stands.ensures (held w.append.new.self) more.appended;
            rest = λ j d le lt. more.rest j d (omega (arith, inv.within)) ∙ inv.rest j d (omega arith) lt;
          })
      | else-stands w ↦
          subst Next (sym w.self-is)
          (record {
            within = omega (arith, inv.within);
            done = sweep_dropped s (held c.loop-i.self) i inv.done h r at w.if-stands.ensures;
            rest = λ j d le lt. inv.rest j d (omega arith) lt;
          })
    ]

pub returns : goal.returns
returns c =
    let t = c.args.self.now in
    let all = subst (λ rs. Rewritten rs (held c.loop-i.self) standing)
    (take_all c.loop-i.i (held t) (omega (arith, used_long (is_sound t.sound), c.loop-i-test.false))) c.loop-i.invariant.done in
    record { after = all.noted; variables = all.totals width }
