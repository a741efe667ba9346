-- The rows of a matrix as keys.
use Rattle.std.specs.Prelude.{ℕ, ◌/◌, List, length}
use Rattle.numbering.specs.Keys.{Numbered}
use Rattle.numbering.specs.Lists.{same_list}
use Rattle.graphs.specs.Matrix.{row_at}

-- each row's entry is the first row with the same words
abbrev pub SameRows : ℕ → List ℕ → List ℕ → Type 0
SameRows w m first = Numbered (same_list (row_at w m)) first (length m / w)
