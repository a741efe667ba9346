-- The items of a text, one after another. Assumes nothing.
use Rattle.std.specs.Prelude.{◌≡◌, ℕ, ◌-◌, List, length, Option, MatchOption}
use Rattle.grammar.specs.declared.state.Found.{Found}
use Rattle.grammar.specs.declared.unit.Items.{Items}
use Rattle.grammar.specs.Units.{ItemAt}

abbrev pub text_of : Items → List ℕ
text_of s = s.text.now

abbrev pub offset_of : Items → ℕ
offset_of s = s.at

abbrev pub bytes_left : Items → ℕ
bytes_left s = length (text_of s) - offset_of s

-- a call gave the item at the offset and went past it, or there was none
abbrev pub GivesItem : Items → Option Found → Items → Type 0
GivesItem s r t = (text_of t ≡ text_of s) × ItemAt (text_of s) (offset_of s) r × MatchOption r (offset_of t ≡ offset_of s) (λ f. offset_of t ≡ f.end)
