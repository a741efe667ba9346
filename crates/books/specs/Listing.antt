-- The words of a book's list, each with the unit and the offset of its statement.
use Rattle.std.specs.Prelude.{◌≡◌, ℕ, ◌+◌, ◌<◌, List, [], ◌∷◌, ◌++◌, map, length, Some, None, Option, slice_index, slice_index_or}
use Rattle.std.specs.List.{slice_get}
use Rattle.grammar.specs.Parse.{Statement}
use Rattle.grammar.specs.Units.{statements_in}
use Rattle.units.specs.declared.listing.ListedWord.{ListedWord}
use Rattle.units.specs.Words.{Named, word}
use Rattle.units.specs.Listing.{words_at, listing}
use Rattle.books.specs.Members.{◌∈◌}
use Rattle.books.specs.Tables.{first_of}
use Rattle.books.specs.Books.{Units, standing, table, list_of}

-- the words of the units from number u on
abbrev pub listing_from : (List ℕ → ℕ) → ℕ → Units → List ListedWord
listing_from first u [] = []
listing_from first u (None ∷ units) = listing_from first (u + 1) units
listing_from first u (Some t ∷ units) = listing first u t ++ listing_from first (u + 1) units

abbrev pub first_in : Units → List ℕ → ℕ
first_in units = first_of (table (standing units))

unfoldable pub listed_words : Units → List ListedWord
listed_words units = listing_from (first_in units) 0 units

-- where the word at a position of the list comes from
abbrev pub origin : Units → ℕ → Option ListedWord
origin units i = slice_get (listed_words units) i

abbrev pub word_of : ListedWord → ℕ
word_of l = l.word

abbrev pub ListingHasTheWords : Type 0
ListingHasTheWords = (units : Units) → map word_of (listed_words units) ≡ (list_of (standing units)).words

-- the word is one of a statement of the unit's text, which begins at the offset
pub record Origin (units : Units) (i : ℕ) : Type 0 where
  pub listed : ListedWord
  pub text : List ℕ
  pub statement : Statement
  pub named : Named
  pub is : origin units i ≡ Some listed
  pub stands : slice_index_or units listed.unit None ≡ Some text
  pub written : statement ∈ statements_in text
  pub says : named ∈ words_at statement
  pub offset : listed.at ≡ statement.at
  pub encoded : listed.word ≡ word (first_in units) named
  pub listed_word : listed.word ≡ slice_index (list_of (standing units)).words i

abbrev pub WordsHaveOrigins : Type 0
WordsHaveOrigins = (units : Units) (i : ℕ) → i < length (list_of (standing units)).words → Origin units i
