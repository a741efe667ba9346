-- Mentions put one after another.
use Rattle.std.proofs.Common.{◌≡◌, ℕ, ◌+◌, ◌<◌, List, [], ◌∷◌, ◌++◌, map, length, get_or, take, sym, ap, ◌∙◌, append_assoc, arith}
use Rattle.std.proofs.lemmas.List.{length-map, get_or-map, map_push, map_more}
use Rattle.grammar.specs.declared.item.Place.{Place as PlaceIn}
use Rattle.grammar.specs.Grammar.{Place}
use Rattle.grammar.specs.Meanings.{place_in}
use Rattle.declarations.specs.declared.mention.Mention.{Mention}
use Rattle.declarations.specs.Declarations as declarations
use Rattle.declarations.specs.Meanings.{mention_in, noted}

pub noted_push : (text : List ℕ) (ms : List Mention) (m : Mention) → noted text (ms ++ m ∷ []) ≡ noted text ms ++ mention_in text m ∷ []
noted_push text ms m = map_push (mention_in text) ms m

-- one argument more
argument_more : (before now after : List declarations.Mention) (given : List Place) (i : ℕ) (d p : Place) → i < length given → get_or given i d ≡ p
    → now ≡ before ++ map declarations.uses (take i given) → after ≡ now ++ declarations.uses p ∷ [] → after ≡ before ++ map declarations.uses (take (i + 1) given)
argument_more before now after given i d p h is e f =
    f ∙ ap (λ (ms : List declarations.Mention). ms ++ declarations.uses p ∷ []) e ∙ append_assoc before _ _
    ∙ ap (λ (q : Place). before ++ (map declarations.uses (take i given) ++ declarations.uses q ∷ [])) (sym is)
    ∙ ap (λ (ms : List declarations.Mention). before ++ ms) (sym (map_more declarations.uses given i d h))

pub place_more : (text : List ℕ) (before now after : List declarations.Mention) (places : List PlaceIn) (i : ℕ) (d : PlaceIn) → i < length places
    → now ≡ before ++ map declarations.uses (take i (map (place_in text) places)) → after ≡ now ++ declarations.uses (place_in text (get_or places i d)) ∷ []
    → after ≡ before ++ map declarations.uses (take (i + 1) (map (place_in text) places))
place_more text before now after places i d h e f =
    argument_more before now after (map (place_in text) places) i (place_in text d) (place_in text (get_or places i d)) (omega (arith, length-map places (place_in text)))
    (get_or-map (place_in text) places i d (place_in text d) h) e f

-- one mention, and others after it
pub mentions_after : (before between after rest : List declarations.Mention) (m : declarations.Mention) → between ≡ before ++ m ∷ [] → after ≡ between ++ rest → after ≡ before ++ m ∷ rest
mentions_after before between after rest m e f = f ∙ ap (λ (ms : List declarations.Mention). ms ++ rest) e ∙ append_assoc before (m ∷ []) rest
