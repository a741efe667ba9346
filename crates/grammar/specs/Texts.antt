-- Texts in fixed memory.
use Rattle.std.specs.Prelude.{◌≡◌, ℕ, ◌<◌, ◌≤◌, List, length, take, Ok, Err, Result}
use Rattle.grammar.specs.declared.unit.UnitFault.{UnitFault}
use Rattle.grammar.specs.declared.unit.UnitFault.TheVariants.{TooLong}
use Rattle.grammar.specs.declared.unit_text.UnitText.{UnitText}

abbrev pub text_in : UnitText → List ℕ
text_in t = take t.len t.bytes

-- a text is kept whole, or it is too long
abbrev pub Keeps : List ℕ → Result UnitText UnitFault → Type 0
Keeps text (Ok t) = (length text ≤ 4096) × (text_in t ≡ text)
Keeps text (Err f) = (4096 < length text) × (f ≡ TooLong)
