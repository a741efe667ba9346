-- What a unit's place holds.
use Rattle.std.specs.Prelude.{ℕ, List, take, Some, None, Option}

-- the text that stands, if one does: so many of the bytes
abbrev pub text_or_none : Option ℕ → List ℕ → Option (List ℕ)
text_or_none None bytes = None
text_or_none (Some n) bytes = Some (take n bytes)
