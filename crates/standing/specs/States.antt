-- The standing units, and what questions about them are answered.
use Rattle.std.specs.Prelude.{◌≡◌, ℕ, List, [], Some, None, Ok, Err, Option, Result, slice_index_or}
use Rattle.lexemes.specs.declared.lexeme.Span.{Span}
use Rattle.lexemes.specs.Texts.{name_in_text}
use Rattle.units.specs.Words.{Cell}
use Rattle.declarations.specs.Declarations.{Entry}
use Rattle.names.specs.Held.{notes}
use Rattle.books.specs.Books.{Units, standing, table}
use Rattle.books.specs.Tables.{number, slot}
use Rattle.standing.specs.declared.refusal.UnitRefusal.{UnitRefusal}
use Rattle.standing.specs.declared.refusal.UnitRefusal.TheVariants.{NoSuchCall}
use Rattle.standing.specs.declared.list.Owner.{Owner}
use Rattle.standing.specs.declared.standing_units.StandingUnits.{StandingUnits}
use Rattle.standing.specs.Firsts.{first_in, laid_first}
use Rattle.standing.specs.Calls.{call_refusal, call_pointer}
use Rattle.standing.specs.Knowledge.{texts_in}

-- under each unit number the standing text or none
abbrev pub units_of : StandingUnits → Units
units_of s = texts_in s.texts

abbrev pub cell_number : Units → Option Cell → Option ℕ
cell_number units None = None
cell_number units (Some c) = Some (number (table (standing units)) c)

abbrev pub object_number : Units → Option (List ℕ) → Option ℕ
object_number units None = None
object_number units (Some n) = Some (number (table (standing units)) (slot n 0))

abbrev pub pointer_or : Option UnitRefusal → Option ℕ → Result ℕ UnitRefusal
pointer_or (Some f) v = Err f
pointer_or None None = Err NoSuchCall
pointer_or None (Some v) = Ok v

-- the variable of the pointer, or why there is none
abbrev pub pointer_reply : Units → ℕ → ℕ → Result ℕ UnitRefusal
pointer_reply units u i = pointer_or (call_refusal units u i) (cell_number units (call_pointer units u i))

abbrev pub bytes_in : Option (List ℕ) → Span → List ℕ
bytes_in None span = []
bytes_in (Some t) span = (name_in_text t span).bytes

-- the name that a block belongs to, read where it is declared
abbrev pub owned_name : Units → Owner → List ℕ
owned_name units o = bytes_in (slice_index_or units o.unit None) o.span

abbrev pub name_in_entry : Entry → List ℕ
name_in_entry e = e.name

-- each name's block is laid out where the list has it
unfoldable pub LaidOut : StandingUnits → Type 0
LaidOut s = (n : List ℕ) → first_in (notes s.names n) ≡ laid_first (table (standing (units_of s))) n
