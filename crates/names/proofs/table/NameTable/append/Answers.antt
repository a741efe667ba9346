use Rattle.std.proofs.Common.{ℕ, ◌+◌, ◌%◌, set, get_or, Some, None, refl, ap, ◌∙◌, sym, subst, arith}
use Rattle.std.proofs.lemmas.List.{get_or-set_other}
use Rattle.numbering.specs.Lists.{hash_of}
use Rattle.numbering.proofs.Lists.{hash_items_same}
use Rattle.names.specs.Tables.{Sound}
use Rattle.names.proofs.Sounds.{is_sound, roomy, in_use_push, sound_push}
use Rattle.names.proofs.table.NameTable.append.Goals as goal

pub listed : goal.listed
listed c =
    let s = is_sound c.args.self.now.sound in
    omega (arith, roomy s c.args.last c.requires.unknown (omega (arith, s.counted, c.requires.room)), s.long)

pub bounds-self-at : goal.bounds-self-at
bounds-self-at c =
    let s = is_sound c.args.self.now.sound in
    roomy s c.args.last c.requires.unknown (omega (arith, s.counted, c.requires.room))

pub bounds-self-at-2 : goal.bounds-self-at-2
bounds-self-at-2 c =
    let s = is_sound c.args.self.now.sound in
    roomy s c.args.last c.requires.unknown (omega (arith, s.counted, c.requires.room))

pub overflow_cast-self : goal.overflow_cast-self
overflow_cast-self c = let s = is_sound c.args.self.now.sound in omega (arith, s.few)

pub overflow_add-self : goal.overflow_add-self
overflow_add-self c = let s = is_sound c.args.self.now.sound in omega (arith, s.few)

pub overflow_add-self-3 : goal.overflow_add-self-3
overflow_add-self-3 c = let s = is_sound c.args.self.now.sound in omega (arith, s.counted, c.requires.room)

pub invariant_of-self : goal.invariant_of-self
invariant_of-self c =
    let t = c.args.self.now in
    let s = is_sound t.sound in
    let r = c.args.last in
    let b = c.bucket_of-bucket.result in
    let bucket = c.bucket_of-bucket.ensures ∙ ap (λ h. h % 256) (hash_items_same c.name.result.now c.hash_items.result c.hash_items.ensures ∙ ap hash_of c.name.ensures) in
    let pushed = sound_push s r c.requires.unknown (omega (arith, s.counted, c.requires.room)) b (sym bucket) in
    let At : ℕ → Type 0 =
    λ n. Sound (set t.records t.used r) (t.used + 1) (t.variables + (n + 1)) (set t.heads b (Some t.used)) (set t.links t.used (get_or t.heads b None)) in
    record { sound = ∣ subst At (sym c.from.ensures) pushed ∣₁ }

pub returns : goal.returns
returns c =
    let t = c.args.self.now in
    let s = is_sound t.sound in
    record {
      appended = in_use_push s c.args.last c.requires.unknown (omega (arith, s.counted, c.requires.room));
      used = refl;
      rest = λ j d h. get_or-set_other t.records t.used j c.args.last d (omega arith);
    }
