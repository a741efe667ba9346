-- The automaton run over the pieces of a text. Assumes nothing.
use Rattle.std.specs.Prelude.{ℕ, Bool, true, false, cond, List, [], ◌∷◌, map, Ok, Err, Result}
use Rattle.lexemes.specs.Terminals.{Piece, lexeme, stray}
use Rattle.lexemes.specs.Texts.{first_at}
use Rattle.grammar.specs.Grammar.{Item}
use Rattle.grammar.specs.Automaton.{State, start, external, variable_of, function_of, counted, ended, placed, named, dotted, slotted, valued, addressed, opened, closed, called, Step, more, done, fault, step}

abbrev pub is_start : State → Bool
is_start start = true
is_start external = false
is_start (variable_of e) = false
is_start (function_of e) = false
is_start (counted e n) = false
is_start (ended i) = false
is_start (placed r) = false
is_start (named r n) = false
is_start (dotted r n) = false
is_start (slotted r p) = false
is_start (valued p) = false
is_start (addressed p) = false
is_start (opened t) = false
is_start (closed t p) = false
is_start (called t c) = false

-- an item, and the offset of its first lexeme
pub record Statement : Type 0 where
  pub at : ℕ
  pub item : Item

abbrev pub item_of : Statement → Item
item_of s = s.item

-- one statement before the others
abbrev pub with : Statement → Result (List Statement) ℕ → Result (List Statement) ℕ
with s (Ok ss) = Ok (s ∷ ss)
with s (Err off) = Err off

-- where a step leads, from what is left: `begin` is the offset of this item, `next` that of the one that may follow
abbrev pub after : Step → ℕ → ℕ → ℕ → (ℕ → State → Result (List Statement) ℕ) → Result (List Statement) ℕ
after (more s) begin at next go = go begin s
after (done i) begin at next go = with (record { at = begin; item = i }) (go next start)
after fault begin at next go = Err at

abbrev pub parse : ℕ → ℕ → State → List Piece → Result (List Statement) ℕ
parse size begin s [] = cond (is_start s) (Ok []) (Err size)
parse size begin s (lexeme at l ∷ ps) = after (step s l) begin at (first_at ps) (λ b t. parse size b t ps)
parse size begin s (stray at ∷ ps) = Err at

abbrev pub items : Result (List Statement) ℕ → Result (List Item) ℕ
items (Ok ss) = Ok (map item_of ss)
items (Err off) = Err off
