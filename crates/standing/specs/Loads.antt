-- Which refusal stops a load or an unload, over the units that stand.
use Rattle.std.specs.Prelude.{ℕ, Bool, not, List, [], ◌∷◌, is_some, Some, None, Ok, Err, Option, Result, nat_lt, slice_index_or, slice_set}
use Rattle.lexemes.specs.Lines.{located}
use Rattle.grammar.specs.declared.unit.UnitFault.{UnitFault}
use Rattle.grammar.specs.declared.unit.UnitFault.TheVariants.{Declaration}
use Rattle.grammar.specs.Units.{outcome, read}
use Rattle.declarations.specs.Declarations.{fault_in}
use Rattle.books.specs.Books.{Units, standing}
use Rattle.books.specs.Loads.{clash, too_many_variables, too_many_words, too_many_calls}
use Rattle.standing.specs.declared.refusal.UnitRefusal.{UnitRefusal}
use Rattle.standing.specs.declared.refusal.UnitRefusal.TheVariants.{NoSuchUnit, UnitStands, Clash, TooManyVariables, TooManyWords, TooManyCalls, NothingStands}
use Rattle.standing.specs.Refusals.{refused_if, refused_text, earliest}

abbrev pub stands : Units → ℕ → Bool
stands units u = is_some (slice_index_or units u None)

-- refused at an offset of the text
abbrev pub clashing : List ℕ → Option ℕ → Option UnitRefusal
clashing text None = None
clashing text (Some at) = Some (Clash (located text at))

abbrev pub declaration_at : List ℕ → Option ℕ → Option UnitFault
declaration_at text None = None
declaration_at text (Some at) = Some (Declaration (located text at))

abbrev pub text_fault_by : Result (Unit {0}) UnitFault → Option UnitFault → Option UnitFault
text_fault_by (Err f) later = Some f
text_fault_by (Ok _) later = later

-- why the text alone is refused: too long, grammar, declaration
unfoldable pub text_fault : List ℕ → Option UnitFault
text_fault text = text_fault_by (outcome (read text)) (declaration_at text (fault_in text))

-- why a load is refused: the first reason that applies
unfoldable pub load_refusal : Units → ℕ → List ℕ → Option UnitRefusal
load_refusal units u text =
    let after = standing (slice_set units u (Some text)) in
    earliest
    (refused_if (nat_lt 7 u) NoSuchUnit
    ∷ refused_if (stands units u) UnitStands
    ∷ refused_text (text_fault text)
    ∷ clashing text (clash (standing units) text)
    ∷ refused_if (too_many_variables after) TooManyVariables
    ∷ refused_if (too_many_words after) TooManyWords
    ∷ refused_if (too_many_calls after) TooManyCalls
    ∷ [])

unfoldable pub unload_refusal : Units → ℕ → Option UnitRefusal
unload_refusal units u = earliest (refused_if (nat_lt 7 u) NoSuchUnit ∷ refused_if (not (stands units u)) NothingStands ∷ [])

-- the units after a load or an unload: unless it is refused, the text is entered or struck out
abbrev pub unless : {X : Type 0} → Option UnitRefusal → X → X → X
unless None new old = new
unless (Some f) new old = old

abbrev pub load_units : Units → ℕ → List ℕ → Units
load_units units u text = unless (load_refusal units u text) (slice_set units u (Some text)) units

abbrev pub unload_units : Units → ℕ → Units
unload_units units u = unless (unload_refusal units u) (slice_set units u None) units
