-- Questions about places and names, in bytes, over the texts that stand.
use Rattle.std.specs.Prelude.{◌≡◌, ℕ, Bool, cond, ◌&&◌, T, List, Some, None, Ok, Err, Option, Result, nat_lt}
use Rattle.constraints.specs.Finite.{any}
use Rattle.lexemes.specs.Terminals.{Name}
use Rattle.grammar.specs.Grammar.{Place}
use Rattle.units.specs.Words.{Cell}
use Rattle.units.specs.Statements.{cell}
use Rattle.declarations.specs.Declarations.{size_of, has_slot}
use Rattle.questions.specs.Questions.{place_of, name_of}
use Rattle.books.specs.Members.{◌⊆◌}
use Rattle.books.specs.Tables.{Within, number, slot}
use Rattle.books.specs.Books.{Units, standing, SameTexts, Book, table, row}

-- the place is one of a standing unit: a text declares its name, and the name has its slot
abbrev pub known : List (List ℕ) → Place → Bool
known texts p = has_slot p.slot (size_of (table texts) p.base.bytes)

abbrev pub known_cell : List (List ℕ) → Option Place → Option Cell
known_cell texts None = None
known_cell texts (Some p) = cond (known texts p) (Some (cell p)) None

abbrev pub known_name : List (List ℕ) → Option Name → Option (List ℕ)
known_name texts None = None
known_name texts (Some n) = cond (nat_lt 0 (size_of (table texts) n.bytes)) (Some n.bytes) None

-- the cell, or the name, that a question's text is for
unfoldable pub place_among : List (List ℕ) → List ℕ → Option Cell
place_among texts bytes = known_cell texts (place_of bytes)

unfoldable pub name_in : List (List ℕ) → List ℕ → Option (List ℕ)
name_in texts bytes = known_name texts (name_of bytes)

-- the cell's row has the name's object
abbrev pub has_object : List (List ℕ) → Cell → List ℕ → Bool
has_object texts c n = row texts c (number (table texts) (slot n 0))

-- two rows share an object
abbrev pub shares : List (List ℕ) → Cell → Cell → Bool
shares texts c d = any 256 (λ o. row texts c o && row texts d o)

-- refused in this way if there is none
abbrev pub asked : {X Y F : Type 0} → F → Option X → (X → Result Y F) → Result Y F
asked refusal None f = Err refusal
asked refusal (Some x) f = f x

-- whether the place's row has the name's object; refused if the place (22), or else the name (23), is not known
abbrev pub points : {F : Type 0} → F → F → List (List ℕ) → List ℕ → List ℕ → Result Bool F
points no_place no_name texts p n = asked no_place (place_among texts p) (λ c. asked no_name (name_in texts n) (λ m. Ok (has_object texts c m)))

-- whether two places' rows share an object; refused if the first (22), or else the second (23), is not known
abbrev pub alias : {F : Type 0} → F → F → List (List ℕ) → List ℕ → List ℕ → Result Bool F
alias no_first no_second texts p q = asked no_first (place_among texts p) (λ c. asked no_second (place_among texts q) (λ d. Ok (shares texts c d)))

-- units with the same texts, under whatever numbers, give every question the same reply
abbrev pub SameTextsSameReplies : Type 0
SameTextsSameReplies =
    (b c : Units) → Book (standing b) → Book (standing c) → SameTexts b c → (p q : List ℕ)
    → (points {F = ℕ} 22 23 (standing b) p q ≡ points {F = ℕ} 22 23 (standing c) p q) × (alias {F = ℕ} 22 23 (standing b) p q ≡ alias {F = ℕ} 22 23 (standing c) p q)

-- what is known is in the table
abbrev pub KnownIsWithin : Type 0
KnownIsWithin =
    (texts : List (List ℕ)) (bytes : List ℕ)
    → ((c : Cell) → place_among texts bytes ≡ Some c → Within (table texts) c)
    × ((n : List ℕ) → name_in texts bytes ≡ Some n → Within (table texts) (slot n 0))

-- more texts, no fewer yes-answers
abbrev pub MoreTextsMorePairs : Type 0
MoreTextsMorePairs =
    (ts us : List (List ℕ)) → Book ts → Book us → ts ⊆ us → (c : Cell) (n : List ℕ) → Within (table ts) c → Within (table ts) (slot n 0)
    → T (has_object ts c n) → T (has_object us c n)
