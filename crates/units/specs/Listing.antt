-- The words of a text, each with its unit and the offset of its statement, and the pointers of its indirect calls.
use Rattle.std.specs.Prelude.{ℕ, ◌+◌, List, [], ◌∷◌, map, Some, None, Option, slice_set}
use Rattle.std.specs.List.{flat_map}
use Rattle.grammar.specs.Grammar.{Place}
use Rattle.grammar.specs.Parse.{Statement}
use Rattle.grammar.specs.Units.{statements_in}
use Rattle.units.specs.declared.listing.ListedWord.{ListedWord}
use Rattle.units.specs.Words.{Named, word}
use Rattle.units.specs.Statements.{words_of, pointers_of}

abbrev pub words_at : Statement → List Named
words_at s = words_of s.item

abbrev pub pointers_at : Statement → List Place
pointers_at s = pointers_of s.item

-- the words of a text, by names
unfoldable pub words_in : List ℕ → List Named
words_in text = flat_map words_at (statements_in text)

-- the pointers of a text's indirect calls
unfoldable pub pointers_in : List ℕ → List Place
pointers_in text = flat_map pointers_at (statements_in text)

abbrev pub as_list : {X : Type 0} → Option X → List X
as_list None = []
as_list (Some x) = x ∷ []

abbrev pub tagged : ℕ → ℕ → ℕ → ListedWord
tagged unit at w = record { word = w; unit = unit; at = at }

-- the words of a statement, by the first variable of each name
abbrev pub listed : (List ℕ → ℕ) → ℕ → Statement → List ListedWord
listed first unit s = map (tagged unit s.at) (map (word first) (words_at s))

unfoldable pub listing : (List ℕ → ℕ) → ℕ → List ℕ → List ListedWord
listing first unit text = flat_map (listed first unit) (statements_in text)

-- ys written over xs from position n on, as far as xs goes
abbrev pub overlaid : {X : Type 0} → List X → ℕ → List X → List X
overlaid xs n [] = xs
overlaid xs n (y ∷ ys) = overlaid (slice_set xs n y) (n + 1) ys
