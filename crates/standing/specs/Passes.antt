-- What a pass over a text's declarations does to the table of names.
use Rattle.std.specs.Prelude.{ℕ, ◌+◌, Bool, true, false, not, ◌&&◌, ◌||◌, List, [], ◌∷◌, is_ok, Some, None, Option, ◌==◌}
use Rattle.declarations.specs.Declarations.{Mention, declares, uses, calls}
use Rattle.names.specs.declared.record.Note.{Note}
use Rattle.names.specs.declared.table.NameTable.{NameTable}
use Rattle.names.specs.Held.{notes, variables_of}
use Rattle.names.specs.Notes.{lowered, then_note, with_note}
use Rattle.names.specs.Tables.{mention_reply, after_mention, mention_adds}
use Rattle.books.specs.Books.{is_defined}

-- the note of each known name, and the variables of all blocks
pub record Known : Type 0 where
  pub known : List ℕ → Option Note
  pub variables : ℕ

abbrev pub known_in : NameTable → Known
known_in t = record { known = notes t; variables = variables_of t }

-- a name that is declared with k slots clashes with what is known of it
abbrev pub clashes_note : Bool → ℕ → Option Note → Bool
clashes_note defines k None = false
clashes_note defines k (Some note) = not (note.slots == k) || (defines && note.defined)

abbrev pub clashes_known : (List ℕ → Option Note) → Mention → Bool
clashes_known known (declares e n k) = clashes_note (is_defined e) k (known n.bytes)
clashes_known known (uses p) = false
clashes_known known (calls f k) = false

-- one unit more declares the name
abbrev pub fits_one : Known → Mention → Bool
fits_one t (declares e n k) = is_ok (mention_reply (t.known n.bytes) t.variables n.bytes k)
fits_one t (uses p) = true
fits_one t (calls f k) = true

abbrev pub enter_one : Known → Mention → Known
enter_one t (declares e n k) =
    record {
      known = with_note t.known n.bytes (after_mention (t.known n.bytes) t.variables n.bytes k (is_defined e));
      variables = t.variables + mention_adds (t.known n.bytes) t.variables n.bytes k;
    }
enter_one t (uses p) = t
enter_one t (calls f k) = t

abbrev pub enter_all : Known → List Mention → Known
enter_all t [] = t
enter_all t (m ∷ ms) = enter_all (enter_one t m) ms

abbrev pub fit_all : Known → List Mention → Bool
fit_all t [] = true
fit_all t (m ∷ ms) = fits_one t m && fit_all (enter_one t m) ms

-- one unit less declares the name
abbrev pub forget_one : (List ℕ → Option Note) → Mention → List ℕ → Option Note
forget_one known (declares e n k) = with_note known n.bytes (then_note (λ note. Some (lowered note (is_defined e))) (known n.bytes))
forget_one known (uses p) = known
forget_one known (calls f k) = known

abbrev pub forget_all : (List ℕ → Option Note) → List Mention → List ℕ → Option Note
forget_all known [] = known
forget_all known (m ∷ ms) = forget_all (forget_one known m) ms
