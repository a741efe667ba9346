-- The table: its first records are in use, and indexed. What a mention replies, and leaves known of the name.
use Rattle.std.specs.Prelude.{◌≡◌, ℕ, ◌+◌, ◌≤◌, Bool, cond, not, ◌&&◌, List, map, length, take, Some, None, Ok, Err, Option, Result, ◌==◌, nat_le}
use Rattle.names.specs.declared.record.Note.{Note}
use Rattle.names.specs.declared.record.NameRecord.{NameRecord}
use Rattle.names.specs.declared.table.TableFull.{TableFull}
use Rattle.names.specs.Notes.{name_in, total, width, fresh_note, raised, Updated}
use Rattle.names.specs.Index.{Index}

-- the first of the records are in use: they are found by their names, and their blocks have 256 variables at most
pub record Sound (records : List NameRecord) (used variables : ℕ) (heads links : List (Option ℕ)) : Type 0 where
  pub few : used ≤ 256
  pub long : length records ≡ 256
  pub index : Index (map name_in (take used records)) heads links
  pub counted : variables ≡ total width (take used records)
  pub room : variables ≤ 256
  deriving IsProp as Sound-prop

-- whether an unknown name is entered, beside names with so many variables
abbrev pub enters : ℕ → List ℕ → ℕ → Bool
enters variables n slots = not (length n == 0) && (nat_le (length n) 24 && nat_le (variables + slots + 1) 256)

abbrev pub mention_reply : Option Note → ℕ → List ℕ → ℕ → Result (Unit {0}) TableFull
mention_reply (Some k) variables n slots = Ok tt
mention_reply None variables n slots = cond (enters variables n slots) (Ok tt) (Err (record {}))

abbrev pub after_mention : Option Note → ℕ → List ℕ → ℕ → Bool → Option Note
after_mention (Some k) variables n slots defines = Some (raised k defines)
after_mention None variables n slots defines = cond (enters variables n slots) (Some (fresh_note slots defines)) None

abbrev pub mention_adds : Option Note → ℕ → List ℕ → ℕ → ℕ
mention_adds (Some k) variables n slots = 0
mention_adds None variables n slots = cond (enters variables n slots) (slots + 1) 0

-- the variable of a number; 256 is that of none
abbrev pub variable_at : ℕ → Option ℕ
variable_at v = cond (v == 256) None (Some v)

-- a record is changed, and keeps its name and its slots
pub record OfSameName (before after : NameRecord) : Type 0 where
  pub named : name_in after ≡ name_in before
  pub slots : after.note.slots ≡ before.note.slots

-- the record that a name has is changed; without one, all stay as they are
abbrev pub Changed : (NameRecord → Unit {0} → NameRecord → Type 0) → Option Note → List NameRecord → List NameRecord → List ℕ → Type 0
Changed change None before after n = after ≡ before
Changed change (Some k) before after n = (r s : NameRecord) × (r.note ≡ k) × change r tt s × Updated before after n (Some s.note)
