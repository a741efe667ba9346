-- Lines of a text. Assumes nothing.
use Rattle.std.specs.Prelude.{ℕ, ◌+◌, Bool, List, take, count_by, ◌==◌}
use Rattle.lexemes.specs.declared.location.Location.{Location}

abbrev pub is_line_feed : ℕ → Bool
is_line_feed b = b == 10

-- the line of an offset: 1 and the line feeds before it
abbrev pub line_of : List ℕ → ℕ → ℕ
line_of text offset = 1 + count_by is_line_feed (take offset text)

abbrev pub located : List ℕ → ℕ → Location
located text offset = record { offset = offset; line = line_of text offset }
