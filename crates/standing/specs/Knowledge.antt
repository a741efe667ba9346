-- What texts stand, and what the table of names knows of the standing texts.
use Rattle.std.specs.Prelude.{◌≡◌, ℕ, suc, Bool, true, false, List, map, length, is_ok, Some, None, Option, option_map, nat_lt}
use Rattle.grammar.specs.declared.unit_text.UnitText.{UnitText}
use Rattle.grammar.specs.Texts.{text_in}
use Rattle.grammar.specs.Units.{outcome, read}
use Rattle.declarations.specs.Declarations.{size_of}
use Rattle.names.specs.declared.record.Note.{Note}
use Rattle.names.specs.declared.table.NameTable.{NameTable}
use Rattle.names.specs.Held.{notes}
use Rattle.books.specs.Members.{◌∈◌}
use Rattle.books.specs.Books.{Units, standing, table, words, indirect_calls, declaring, defining, Book}

abbrev pub text_of : Option UnitText → Option (List ℕ)
text_of text = option_map text_in text

-- under each unit number the text or none
abbrev pub texts_in : List (Option UnitText) → Units
texts_in texts = map text_of texts

-- what a note says of a name; a name without a note has no block
abbrev pub size_in : Option Note → ℕ
size_in None = 0
size_in (Some k) = suc k.slots

abbrev pub units_in : Option Note → ℕ
units_in None = 0
units_in (Some k) = k.units

abbrev pub defined_in : Option Note → Bool
defined_in None = false
defined_in (Some k) = k.defined

-- each name's block, how many of the texts declare it, and whether one of them defines it
pub record Knows (known : List ℕ → Option Note) (texts : List (List ℕ)) : Type 0 where
  pub sizes : (n : List ℕ) → size_in (known n) ≡ size_of (table texts) n
  pub counts : (n : List ℕ) → units_in (known n) ≡ declaring texts n
  pub defined : (n : List ℕ) → defined_in (known n) ≡ nat_lt 0 (defining texts n)
  deriving IsProp as Knows-prop

-- the texts are units and can stand together, the table knows their names, and their words and indirect calls are counted
pub record Sound (slots : List (Option UnitText)) (names : NameTable) (word_count call_count : ℕ) : Type 0 where
  pub eight : length slots ≡ 8
  pub book : Book (standing (texts_in slots))
  pub admitted : (t : List ℕ) → t ∈ standing (texts_in slots) → is_ok (outcome (read t)) ≡ true
  pub known : Knows (notes names) (standing (texts_in slots))
  pub words_counted : word_count ≡ length (words (standing (texts_in slots)))
  pub calls_counted : call_count ≡ length (indirect_calls (standing (texts_in slots)))
  deriving IsProp as Sound-prop
