-- What mentions and declarations mean, over the text that they were read from.
use Rattle.std.specs.Prelude.{◌≡◌, ℕ, ◌<◌, ◌≤◌, List, [], ◌∷◌, map, length, Some, None, Ok, Err, Option, Result, slice_index_or}
use Rattle.std.specs.List.{flat_map}
use Rattle.lexemes.specs.Texts.{name_in_text}
use Rattle.grammar.specs.Parse.{Statement}
use Rattle.grammar.specs.Meanings.{place_in, statements_from}
use Rattle.grammar.specs.Units.{read, outcome}
use Rattle.declarations.specs.declared.mention.Mention.{Mention}
use Rattle.declarations.specs.declared.mention.Mention.TheVariants.{Declares, Uses, Calls}
use Rattle.declarations.specs.declared.cursor.Declaration.{Declaration}
use Rattle.declarations.specs.Declarations as declarations

module _ (text : List ℕ) where
  abbrev pub mention_in : Mention → declarations.Mention
  mention_in (Declares e n k) = declarations.declares e (name_in_text text n) k
  mention_in (Uses p) = declarations.uses (place_in text p)
  mention_in (Calls f k) = declarations.calls (name_in_text text f) k

  abbrev pub spelling : Mention → List ℕ
  spelling m = (declarations.name_in (mention_in m)).bytes

  -- the bytes of the name at a position
  abbrev pub key : List Mention → ℕ → List ℕ
  key ms i = slice_index_or (map spelling ms) i []

  abbrev pub noted : List Mention → List declarations.Mention
  noted ms = map mention_in ms

  abbrev pub declaration_in : Declaration → declarations.Mention
  declaration_in d = declarations.declares d.linkage (name_in_text text d.name) d.slots

  abbrev pub declaration_or : Option Declaration → List declarations.Mention
  declaration_or None = []
  declaration_or (Some d) = declaration_in d ∷ []

abbrev pub declarations_of : Result (List Statement) ℕ → Result (List declarations.Mention) ℕ
declarations_of (Ok ss) = Ok (flat_map declarations.kept (flat_map declarations.mentions_at ss))
declarations_of (Err off) = Err off

-- the declarations of a text from an offset on, or the offset of its grammar fault
abbrev pub declarations_from : List ℕ → ℕ → Result (List declarations.Mention) ℕ
declarations_from text at = declarations_of (statements_from text at)

-- of the declarations from an offset on, the one that was found is the first, and those after its end are the rest
abbrev pub NextDeclaration : List ℕ → ℕ → Option Declaration → Type 0
NextDeclaration text at None = (ds : List declarations.Mention) → declarations_from text at ≡ Ok ds → ds ≡ []
NextDeclaration text at (Some d) =
    (ds : List declarations.Mention) → declarations_from text at ≡ Ok ds
    → (rest : List declarations.Mention) × (ds ≡ declaration_in text d ∷ rest) × (declarations_from text d.end ≡ Ok rest)

-- a declaration ends past an offset, and within the text
abbrev pub Onward : List ℕ → ℕ → Option Declaration → Type 0
Onward text at None = Unit {0}
Onward text at (Some d) = (at < d.end) × (d.end ≤ length text)

-- an admitted text's declarations are found from offset 0 on, and are what the text declares
pub record AllDeclarations (text : List ℕ) : Type 0 where
  pub whole : Ok tt ≡ outcome (read text) → declarations_from text 0 ≡ Ok (declarations.declarations_in text)
  pub entries : declarations.declared_in text ≡ flat_map declarations.entry (declarations.declarations_in text)
