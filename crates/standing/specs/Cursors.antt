-- The declarations of a text, one after another.
use Rattle.std.specs.Prelude.{◌≡◌, ℕ, ◌-◌, List, length, Option, MatchOption}
use Rattle.declarations.specs.declared.cursor.Declaration.{Declaration}
use Rattle.declarations.specs.Meanings.{NextDeclaration, Onward}
use Rattle.standing.specs.declared.cursor.Declarations.{Declarations}

abbrev pub text_read : Declarations → List ℕ
text_read s = s.text.now

abbrev pub offset_of : Declarations → ℕ
offset_of s = s.at

abbrev pub bytes_left : Declarations → ℕ
bytes_left s = length (text_read s) - offset_of s

-- a call gave the declaration next to the offset and went past it, or there was none
pub record GivesDeclaration (s : Declarations) (r : Option Declaration) (t : Declarations) : Type 0 where
  pub same : text_read t ≡ text_read s
  pub next : NextDeclaration (text_read s) (offset_of s) r
  pub onward : Onward (text_read s) (offset_of s) r
  pub past : MatchOption r (offset_of t ≡ offset_of s) (λ d. offset_of t ≡ d.end)
