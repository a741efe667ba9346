-- The records rewritten one by one.
use Rattle.std.proofs.Common.{◌≡◌, ℕ, ◌+◌, ◌<◌, ◌≤◌, Bool, true, false, cond, List, [], ◌∷◌, ◌++◌, map, length, get_or, take, drop, Some, None, Option, sym, refl, ap, ◌∙◌, subst, arith}
use Rattle.std.specs.Str.{bytes_eq}
use Rattle.std.proofs.lemmas.List.{take_at, take_more, length-append, length-drop, length-map}
use Rattle.names.specs.declared.record.Note.{Note}
use Rattle.names.specs.declared.record.NameRecord.{NameRecord}
use Rattle.names.specs.Notes.{name_in, note_of, total, width, weight, stands, standing, placed, unplaced, then_note, Rewritten, Updated}
use Rattle.names.specs.Index.{Index}
use Rattle.names.specs.Tables.{Sound}
use Rattle.names.proofs.Records.{names_of, key_in, new_at, total_push, total_le, total_take, updated_push, updated_same, then_cond, rewritten_more}
use Rattle.names.proofs.Sounds.{used_long, keys_long, chosen, passed_over}

standing_less : (k : Note) → weight width (standing k) ≤ width k
standing_less k = by (stands k)
  where
    by : (b : Bool) → weight width (cond b (Some k) None) ≤ width k
    by true = omega arith
    by false = omega arith

-- ---- sweeping: those of the first i that stand are kept

module _ {records : List NameRecord} {used variables : ℕ} {heads links : List (Option ℕ)} (s : Sound records used variables heads links)
    (kept : List NameRecord) (i : ℕ) (so : Rewritten (take i (take used records)) kept standing) (h : i < used)
    (r : NameRecord) (at : r ≡ get_or (take used records) i r) where
  abbrev in_use : List NameRecord
  in_use = take used records

  long : i < length in_use
  long = omega (arith, used_long s)

  new_before : note_of (take i in_use) (name_in r) ≡ None
  new_before =
      ap (note_of (take i in_use)) (ap name_in at ∙ sym (key_in in_use i r long))
      ∙ new_at in_use i long (s.index.fresh i (omega (arith, keys_long s)))

  pub sweep_new : note_of kept (name_in r) ≡ None
  sweep_new = so.noted (name_in r) ∙ ap (then_note standing) new_before

  next : take (i + 1) in_use ≡ take i in_use ++ r ∷ []
  next = take_more in_use i r long ∙ ap (λ q. take i in_use ++ q ∷ []) (sym at)

  pub sweep_room : total width kept + width r.note ≤ 256
  sweep_room =
      let up = ap (total width) next ∙ total_push width (take i in_use) r in
      omega (
        arith,
        so.totals width,
        total_le (λ k. weight width (standing k)) width standing_less (take i in_use),
        up,
        total_take width (i + 1) in_use,
        s.counted,
        s.room,
      )

  done_more : (more : List NameRecord) → Updated kept more (name_in r) (standing r.note) → Rewritten (take (i + 1) in_use) more standing
  done_more more step =
      subst (λ bs. Rewritten bs more standing) (sym next) (rewritten_more standing (take i in_use) kept more r so new_before step)

  pub sweep_dropped : false ≡ stands r.note → Rewritten (take (i + 1) in_use) kept standing
  sweep_dropped none =
      done_more kept (subst (Updated kept kept (name_in r)) (sweep_new ∙ passed_over (stands r.note) (Some r.note) None none) (updated_same kept (name_in r)))

  pub sweep_kept : true ≡ stands r.note → (more : List NameRecord) → more ≡ kept ++ r ∷ [] → Rewritten (take (i + 1) in_use) more standing
  sweep_kept up more pushed =
      done_more more (subst (Updated kept more (name_in r)) (chosen (stands r.note) (Some r.note) None up)
      (subst (λ rs. Updated kept rs (name_in r) (Some r.note)) (sym pushed) (updated_push kept r sweep_new)))

-- ---- unplacing

pub unplaced_names : (rs : List NameRecord) → names_of (map unplaced rs) ≡ names_of rs
unplaced_names [] = refl
unplaced_names (r ∷ rs) = ap (λ ns. name_in r ∷ ns) (unplaced_names rs)

pub unplaced_notes : (rs : List NameRecord) (n : List ℕ) → note_of (map unplaced rs) n ≡ then_note (λ k. Some (placed None k)) (note_of rs n)
unplaced_notes [] n = refl
unplaced_notes (r ∷ rs) n =
    let b = bytes_eq (name_in r) n in
    ap (cond b (Some (placed None r.note))) (unplaced_notes rs n) ∙ then_cond (λ k. Some (placed None k)) b r.note (note_of rs n)

pub unplaced_widths : (rs : List NameRecord) → total width (map unplaced rs) ≡ total width rs
unplaced_widths [] = refl
unplaced_widths (r ∷ rs) = ap (λ w. width r.note + w) (unplaced_widths rs)

module _ {records : List NameRecord} {used variables : ℕ} {heads links : List (Option ℕ)} (s : Sound records used variables heads links) where
  pub unplaced_in_use : take used (map unplaced (take used records) ++ drop used records) ≡ map unplaced (take used records)
  unplaced_in_use = take_at (map unplaced (take used records)) (drop used records) used (length-map (take used records) unplaced ∙ used_long s)

  pub sound_unplaced : Sound (map unplaced (take used records) ++ drop used records) used variables heads links
  sound_unplaced =
      let sum = length-append (map unplaced (take used records)) (drop used records) in
      record {
        few = s.few;
        long = omega (arith, sum, length-map (take used records) unplaced, used_long s, length-drop used records, s.few, s.long);
        index = subst (λ ns. Index ns heads links) (sym (ap names_of unplaced_in_use ∙ unplaced_names (take used records))) s.index;
        counted = s.counted ∙ sym (ap (total width) unplaced_in_use ∙ unplaced_widths (take used records));
        room = s.room;
      }
