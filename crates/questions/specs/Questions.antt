-- Places and names in questions: written as in texts, without blanks.
use Rattle.std.specs.Prelude.{◌≡◌, ℕ, Bool, true, false, cond, ◌||◌, List, [], ◌∷◌, Some, None, codes, Option}
use Rattle.std.specs.Str.{bytes_eq}
use Rattle.lexemes.specs.declared.class.Class.{Class}
use Rattle.lexemes.specs.declared.class.Class.TheVariants.{Blank, Letter, Digit, Sign as Signs, Other}
use Rattle.lexemes.specs.declared.lexeme.Sign.TheVariants.{Stop}
use Rattle.lexemes.specs.declared.lexeme.Span.{Span}
use Rattle.lexemes.specs.Classes.{class_of}
use Rattle.lexemes.specs.Terminals.{Name, Terminal, sign, word, name, number, Piece, lexeme, stray}
use Rattle.lexemes.specs.Texts.{name_in_text}
use Rattle.lexemes.specs.Lexemes.{pieces_from}
use Rattle.grammar.specs.declared.item.Slot.{Slot}
use Rattle.grammar.specs.declared.item.Slot.TheVariants.{Bare, Result, Parameter}
use Rattle.grammar.specs.Grammar.{Place, place}
use Rattle.grammar.specs.Automaton.{is_sign}
use Rattle.grammar.specs.Faults.{Spells}

abbrev pub is_blank : Class → Bool
is_blank Blank = true
is_blank Letter = false
is_blank Digit = false
is_blank Signs = false
is_blank Other = false

abbrev pub has_blank : List ℕ → Bool
has_blank [] = false
has_blank (b ∷ bs) = is_blank (class_of b) || has_blank bs

abbrev pub slot_lexeme : Terminal → Option Slot
slot_lexeme (sign s) = None
slot_lexeme (word w) = None
slot_lexeme (name n) = cond (bytes_eq n.bytes (codes "r")) (Some (Result n.at)) None
slot_lexeme (number k) = Some (Parameter k)

-- a slot, and nothing after it
abbrev pub last_slot : List Piece → Option Slot
last_slot [] = None
last_slot (stray at ∷ ps) = None
last_slot (lexeme at l ∷ []) = slot_lexeme l
last_slot (lexeme at l ∷ (p ∷ ps)) = None

abbrev pub with_slot : Name → Option Slot → Option Place
with_slot n None = None
with_slot n (Some s) = Some (record { base = n; slot = s })

abbrev pub after_name : Name → List Piece → Option Place
after_name n [] = Some (record { base = n; slot = Bare })
after_name n (stray at ∷ ps) = None
after_name n (lexeme at l ∷ ps) = cond (is_sign Stop l) (with_slot n (last_slot ps)) None

abbrev pub place_from : List Piece → Option Place
place_from [] = None
place_from (stray at ∷ ps) = None
place_from (lexeme at (sign s) ∷ ps) = None
place_from (lexeme at (word w) ∷ ps) = None
place_from (lexeme at (name n) ∷ ps) = after_name n ps
place_from (lexeme at (number k) ∷ ps) = None

-- the place that a text is
abbrev pub place_of : List ℕ → Option Place
place_of text = cond (has_blank text) None (place_from (pieces_from text 0))

abbrev pub bare_name : Place → Slot → Option Name
bare_name p Bare = Some p.base
bare_name p (Result at) = None
bare_name p (Parameter j) = None

abbrev pub name_from : Option Place → Option Name
name_from None = None
name_from (Some p) = bare_name p p.slot

-- the name that a text is
abbrev pub name_of : List ℕ → Option Name
name_of text = name_from (place_of text)

abbrev pub name_or : List ℕ → Option Span → Option Name
name_or text None = None
name_or text (Some s) = Some (name_in_text text s)

-- a text without blanks is a place exactly if its lexemes are those that the grammar writes the place with
pub record Grammatical (text : List ℕ) : Type 0 where
  pub written : (p : Place) → place_of text ≡ Some p → Spells (pieces_from text 0) (place p [])
  pub read : (p : Place) → has_blank text ≡ false → Spells (pieces_from text 0) (place p []) → place_of text ≡ Some p
