-- What is known of names: a map from names to notes, held by a list of records.
use Rattle.std.specs.Prelude.{◌≡◌, ℕ, ◌+◌, ◌-◌, min, Bool, true, false, cond, not, ◌&&◌, ◌||◌, List, [], ◌∷◌, Some, None, Option, nat_lt}
use Rattle.std.specs.Str.{bytes_eq}
use Rattle.names.specs.declared.record.Note.{Note}
use Rattle.names.specs.declared.record.NameRecord.{NameRecord}
use Rattle.names.specs.ShortNames.{bytes_in}

abbrev pub name_in : NameRecord → List ℕ
name_in r = bytes_in r.name

-- a name that one unit mentions, and that has no block
abbrev pub fresh_note : ℕ → Bool → Note
fresh_note slots defines = record { slots = slots; units = 1; defined = defines; first = None }

-- one unit more, at most 255
abbrev pub raised : Note → Bool → Note
raised k defines = record { slots = k.slots; units = min (k.units + 1) 255; defined = k.defined || defines; first = k.first }

abbrev pub lowered : Note → Bool → Note
lowered k defines = record { slots = k.slots; units = k.units - 1; defined = k.defined && not defines; first = k.first }

abbrev pub placed : Option ℕ → Note → Note
placed v k = record { slots = k.slots; units = k.units; defined = k.defined; first = v }

abbrev pub unplaced : NameRecord → NameRecord
unplaced r = record { name = r.name; note = placed None r.note }

-- some unit mentions the name
abbrev pub stands : Note → Bool
stands k = nat_lt 0 k.units

-- what is left of a note: nothing, where no unit mentions the name
abbrev pub standing : Note → Option Note
standing k = cond (stands k) (Some k) None

-- the note of a name: that of the first record with its bytes
abbrev pub note_of : List NameRecord → List ℕ → Option Note
note_of [] n = None
note_of (r ∷ rs) n = cond (bytes_eq (name_in r) n) (Some r.note) (note_of rs n)

-- the map with what it gives at one name replaced
abbrev pub with_note : (List ℕ → Option Note) → List ℕ → Option Note → List ℕ → Option Note
with_note notes n x m = cond (bytes_eq n m) x (notes m)

-- the sum of a weight over all notes held
abbrev pub total : (Note → ℕ) → List NameRecord → ℕ
total w [] = 0
total w (r ∷ rs) = w r.note + total w rs

abbrev pub weight : (Note → ℕ) → Option Note → ℕ
weight w None = 0
weight w (Some k) = w k

-- the variables of a name's block
abbrev pub width : Note → ℕ
width k = k.slots + 1

abbrev pub listed : List (List ℕ) → List ℕ → Bool
listed [] n = false
listed (m ∷ ms) n = cond (bytes_eq m n) true (listed ms n)

abbrev pub Once : List (List ℕ) → Type 0
Once [] = Unit {0}
Once (n ∷ ns) = (listed ns n ≡ false) × Once ns

-- the names have each known name, and no name twice
pub record Lists (ns : List (List ℕ)) (notes : List ℕ → Option Note) : Type 0 where
  pub once : Once ns
  pub all : (n : List ℕ) → listed ns n ≡ false → notes n ≡ None

abbrev pub sum_over : (List ℕ → ℕ) → List (List ℕ) → ℕ
sum_over f [] = 0
sum_over f (n ∷ ns) = f n + sum_over f ns

abbrev pub then_note : (Note → Option Note) → Option Note → Option Note
then_note to None = None
then_note to (Some k) = to k

-- only what is known of n differs, and it is now x
pub record Updated (before after : List NameRecord) (n : List ℕ) (x : Option Note) : Type 0 where
  pub noted : note_of after ≡ with_note (note_of before) n x
  pub totals : (w : Note → ℕ) → total w after + weight w (note_of before n) ≡ total w before + weight w x

-- each note is changed by `to`, and a note that it drops is gone
pub record Rewritten (before after : List NameRecord) (to : Note → Option Note) : Type 0 where
  pub noted : (n : List ℕ) → note_of after n ≡ then_note to (note_of before n)
  pub totals : (w : Note → ℕ) → total w after ≡ total (λ k. weight w (to k)) before
