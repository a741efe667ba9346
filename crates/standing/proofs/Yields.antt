-- The declarations of a text, as the iterator over it yields them.
use Rattle.std.proofs.Common.{◌≡◌, ℕ, Bool, true, false, cond, List, [], ◌∷◌, length, Some, None, Ok, Err, Option, Result, sym, refl, ap, ◌∙◌, subst}
use Rattle.std.specs.List.{find}
use Rattle.std.specs.Option.{option_map}
use Rattle.std.proofs.lemmas.Iterator.{YieldsList}
use Rattle.std.proofs.lemmas.Iterator.Splits.{YieldsList-from_shown_while}
use Rattle.declarations.specs.declared.cursor.Declaration.{Declaration}
use Rattle.declarations.specs.Declarations.{Mention, offset_of as mention_offset}
use Rattle.declarations.specs.Meanings.{declaration_in, declarations_from, NextDeclaration}
use Rattle.books.specs.Loads.{first_at}
use Rattle.standing.specs.declared.cursor.Declarations.{Declarations}
use Rattle.standing.specs.Cursors.{text_read, offset_of, GivesDeclaration}

abbrev listed : Result (List Mention) ℕ → List Mention
listed (Ok ds) = ds
listed (Err off) = []

-- where the declarations from an offset on are these, the iterator yields them
record Reads (text : List ℕ) (s : Declarations) : Type 0 where
  same : text_read s ≡ text
  rest : List Mention
  read : declarations_from text (offset_of s) ≡ Ok rest

abbrev shown : List ℕ → Declarations → List Mention
shown text s = listed (declarations_from text (offset_of s))

shown_none : (text : List ℕ) (s t : Declarations) → Reads text s → GivesDeclaration s None t → length (shown text s) ≡ 0
shown_none text s t h given =
    ap (λ (r : Result (List Mention) ℕ). length (listed r)) h.read
    ∙ ap length (subst (λ (bs : List ℕ). NextDeclaration bs (offset_of s) None) h.same given.next h.rest h.read)

shown_some : (text : List ℕ) (s : Declarations) (d : Declaration) (t : Declarations) → Reads text s → GivesDeclaration s (Some d) t
    → Reads text t × (shown text s ≡ declaration_in text d ∷ shown text t)
shown_some text s d t h given =
    let (rest, here, after) = subst (λ (bs : List ℕ). NextDeclaration bs (offset_of s) (Some d)) h.same given.next h.rest h.read in
    let read = ap (declarations_from text) given.past ∙ after in (
      record { same = given.same ∙ h.same; rest = rest; read = read },
      ap listed h.read ∙ here ∙ sym (ap (λ (r : Result (List Mention) ℕ). declaration_in text d ∷ listed r) read),
    )

pub declarations_yield : (text : List ℕ) (s : Declarations) (ds : List Mention) → text_read s ≡ text → declarations_from text (offset_of s) ≡ Ok ds
    → YieldsList GivesDeclaration (declaration_in text) s ds
declarations_yield text s ds e read =
    subst (YieldsList GivesDeclaration (declaration_in text) s) (ap listed read)
    (YieldsList-from_shown_while GivesDeclaration (declaration_in text) (shown text) (Reads text) (shown_none text) (shown_some text) s (record { same = e; rest = ds; read = read }))

pub first_found : (f : Mention → Bool) (ds : List Mention) → first_at f ds ≡ option_map mention_offset (find f ds)
first_found f [] = refl
first_found f (d ∷ ds) = by (f d) (first_found f ds)
  where
    by : (b : Bool) → first_at f ds ≡ option_map mention_offset (find f ds)
        → cond b (Some (mention_offset d)) (first_at f ds) ≡ option_map mention_offset (cond b (Some d) (find f ds))
    by true e = refl
    by false e = e

pub offset_found : (text : List ℕ) (o : Option Declaration) → option_map mention_offset (option_map (declaration_in text) o) ≡ option_map (λ d. d.name.from) o
offset_found text None = refl
offset_found text (Some d) = refl
