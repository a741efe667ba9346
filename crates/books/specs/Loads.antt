-- What stops a load, as far as it lies with the texts that stand, and what loads and unloads keep.
use Rattle.std.specs.Prelude.{◌≡◌, ℕ, suc, ◌<◌, Bool, false, cond, not, ◌&&◌, ◌||◌, ◌≢◌, List, [], ◌∷◌, length, Some, None, Option, ◌==◌, nat_lt, slice_index_or, slice_set}
use Rattle.constraints.specs.Constraint.{variables}
use Rattle.declarations.specs.Declarations.{size_of, Mention, declares, uses, calls, offset_of, mentions_in, declared_in, fault_in}
use Rattle.books.specs.Members.{any_of}
use Rattle.books.specs.Tables.{blocks}
use Rattle.books.specs.Books.{Units, standing, table, words, indirect_calls, is_defined, declares_name, defines, Book}

-- the standing text declares the name that is declared here, with another kind or count, or both define it
abbrev pub clashes : Mention → List ℕ → Bool
clashes (declares e n k) t =
    declares_name t n.bytes && (not (size_of (declared_in t) n.bytes == suc k) || (is_defined e && defines t n.bytes))
clashes (uses p) t = false
clashes (calls f k) t = false

-- the offset of the first that passes the test
abbrev pub first_at : (Mention → Bool) → List Mention → Option ℕ
first_at f [] = None
first_at f (m ∷ ms) = cond (f m) (Some (offset_of m)) (first_at f ms)

-- 14: the offset of the new text's first name that clashes with a standing text
unfoldable pub clash : List (List ℕ) → List ℕ → Option ℕ
clash texts new = first_at (λ m. any_of (clashes m) texts) (mentions_in new)

-- 15, 16, 17: more than 256 variables, 512 words, 64 indirect calls in all
unfoldable pub too_many_variables : List (List ℕ) → Bool
too_many_variables texts = nat_lt 256 (variables (blocks (table texts)))

unfoldable pub too_many_words : List (List ℕ) → Bool
too_many_words texts = nat_lt 512 (length (words texts))

unfoldable pub too_many_calls : List (List ℕ) → Bool
too_many_calls texts = nat_lt 64 (length (indirect_calls texts))

-- nothing here stops the load of this text under this number
pub record Admitted (units : Units) (u : ℕ) (text : List ℕ) : Type 0 where
  pub number_in : u < length units
  pub free : slice_index_or units u None ≡ None
  pub faultless : fault_in text ≡ None
  pub no_clash : clash (standing units) text ≡ None
  pub variables_in : too_many_variables (standing (slice_set units u (Some text))) ≡ false
  pub words_in : too_many_words (standing (slice_set units u (Some text))) ≡ false
  pub calls_in : too_many_calls (standing (slice_set units u (Some text))) ≡ false

abbrev pub NothingIsABook : Type 0
NothingIsABook = Book []

abbrev pub LoadKeepsBook : Type 0
LoadKeepsBook = (units : Units) (u : ℕ) (text : List ℕ) → Book (standing units) → Admitted units u text → Book (standing (slice_set units u (Some text)))

abbrev pub UnloadKeepsBook : Type 0
UnloadKeepsBook = (units : Units) (u : ℕ) → Book (standing units) → Book (standing (slice_set units u None))

-- two loads under different numbers that are accepted one after the other are accepted the other way round
abbrev pub LoadsCommute : Type 0
LoadsCommute =
    (units : Units) (u v : ℕ) (s t : List ℕ) → Book (standing units) → u ≢ v
    → Admitted units u s → Admitted (slice_set units u (Some s)) v t → Admitted units v t × Admitted (slice_set units v (Some t)) u s
