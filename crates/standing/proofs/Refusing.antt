-- Which refusal a load or an unload meets, from the tests in their order.
use Rattle.std.proofs.Common.{◌≡◌, ℕ, ◌<◌, ◌≤◌, true, false, List, length, get_or, set, is_some, Some, None, Ok, Err, Option, Result, sym, refl, ap, ◌∙◌, arith}
use Rattle.std.proofs.lemmas.List.{get_or-map}
use Rattle.std.proofs.lemmas.Bool.{lt-ltb, le-ltb}
use Rattle.lexemes.specs.Lines.{located}
use Rattle.grammar.specs.declared.unit.UnitFault.{UnitFault}
use Rattle.grammar.specs.declared.unit.UnitFault.TheVariants.{Declaration}
use Rattle.grammar.specs.declared.unit_text.UnitText.{UnitText}
use Rattle.grammar.specs.Texts.{text_in}
use Rattle.grammar.specs.Units.{outcome, read}
use Rattle.declarations.specs.Declarations.{fault_in}
use Rattle.declarations.specs.Verdicts.{unit_verdict, both, ruled}
use Rattle.books.specs.Books.{Units, standing, words, indirect_calls}
use Rattle.books.specs.Loads.{clash, too_many_variables, too_many_words, too_many_calls}
use Rattle.standing.specs.declared.refusal.UnitRefusal.TheVariants.{NoSuchUnit, UnitStands, Text, Clash, TooManyVariables, TooManyWords, TooManyCalls, NothingStands}
use Rattle.standing.specs.Loads.{stands, text_fault, text_fault_by, declaration_at, load_refusal, unload_refusal}
use Rattle.standing.specs.Knowledge.{text_of, texts_in}

pub text_at : (texts : List (Option UnitText)) (u : ℕ) (d : Option UnitText) → u < length texts → get_or (texts_in texts) u None ≡ text_of (get_or texts u d)
text_at texts u d h = get_or-map text_of texts u d None h

-- the text in the slot that was read at u
pub text_there : (texts : List (Option UnitText)) (u : ℕ) (slot : Option UnitText) (kept : UnitText) (t : List ℕ) → u < length texts → slot ≡ get_or texts u slot
    → slot ≡ Some kept → t ≡ text_in kept → get_or (texts_in texts) u None ≡ Some t
text_there texts u slot kept t inside at is same = text_at texts u slot inside ∙ ap text_of (sym at ∙ is) ∙ ap Some (sym same)

pub none_there : {X : Type 0} (o : Option X) → is_some o ≡ false → o ≡ None
none_there None e = refl
none_there (Some x) e = let z : ◌≡◌ {A = ℕ} 0 1 = cc in absurd (omega arith)

-- ---- the text alone

verdict_fault : (r : Result (Unit {0}) UnitFault) (text : List ℕ) (o : Option ℕ) (f : UnitFault) → Err f ≡ both r (ruled text o) → text_fault_by r (declaration_at text o) ≡ Some f
verdict_fault (Err g) text o f e = let same : g ≡ f = cc in ap Some same
verdict_fault (Ok d) text None f e = let z : ◌≡◌ {A = ℕ} 0 1 = cc in absurd (omega arith)
verdict_fault (Ok d) text (Some at) f e = let same : Declaration (located text at) ≡ f = cc in ap Some same

pub refused_verdict : (text : List ℕ) (f : UnitFault) → Err f ≡ unit_verdict text → text_fault text ≡ Some f
unfolding text_fault
refused_verdict text f e = verdict_fault (outcome (read text)) text (fault_in text) f e

-- a text that is not refused
pub record Accepted (text : List ℕ) : Type 0 where
  pub fine : text_fault text ≡ None
  pub admitted : Ok tt ≡ outcome (read text)
  pub faultless : fault_in text ≡ None

pub accepted : (text : List ℕ) → Ok tt ≡ unit_verdict text → Accepted text
unfolding text_fault
accepted text e = go (outcome (read text)) refl (fault_in text) refl e
  where
    go : (r : Result (Unit {0}) UnitFault) → outcome (read text) ≡ r → (o : Option ℕ) → fault_in text ≡ o → Ok tt ≡ both r (ruled text o) → Accepted text
    go (Err f) is o fault h = let z : ◌≡◌ {A = ℕ} 0 1 = cc in absurd (omega arith)
    go (Ok d) is (Some at) fault h = let z : ◌≡◌ {A = ℕ} 0 1 = cc in absurd (omega arith)
    go (Ok d) is None fault h =
        record {
          fine = ap (λ (r : Result (Unit {0}) UnitFault). text_fault_by r (declaration_at text (fault_in text))) is ∙ ap (declaration_at text) fault;
          admitted = sym is;
          faultless = fault;
        }

-- ---- in the order of the reasons

module _ (units : Units) (u : ℕ) where
  pub unload_outside : 7 < u → unload_refusal units u ≡ Some NoSuchUnit
  unfolding unload_refusal
  unload_outside h = rw (lt-ltb 7 u h)

  pub unload_nothing : u ≤ 7 → stands units u ≡ false → unload_refusal units u ≡ Some NothingStands
  unfolding unload_refusal
  unload_nothing inside e = rw (le-ltb 7 u inside, e)

  pub unload_accepted : u ≤ 7 → stands units u ≡ true → unload_refusal units u ≡ None
  unfolding unload_refusal
  unload_accepted inside e = rw (le-ltb 7 u inside, e)

  module _ (text : List ℕ) where
    pub load_outside : 7 < u → load_refusal units u text ≡ Some NoSuchUnit
    unfolding load_refusal
    load_outside h = rw (lt-ltb 7 u h)

    module _ (inside : u ≤ 7) where
      pub load_stands : stands units u ≡ true → load_refusal units u text ≡ Some UnitStands
      unfolding load_refusal
      load_stands e = rw (le-ltb 7 u inside, e)

      module _ (free : stands units u ≡ false) where
        pub load_text : (f : UnitFault) → text_fault text ≡ Some f → load_refusal units u text ≡ Some (Text f)
        unfolding load_refusal
        load_text f e = rw (le-ltb 7 u inside, free, e)

        module _ (fine : text_fault text ≡ None) where
          pub load_clash : (at : ℕ) → clash (standing units) text ≡ Some at → load_refusal units u text ≡ Some (Clash (located text at))
          unfolding load_refusal
          load_clash at e = rw (le-ltb 7 u inside, free, fine, e)

          module _ (clear : clash (standing units) text ≡ None) where
            pub load_variables : too_many_variables (standing (set units u (Some text))) ≡ true → load_refusal units u text ≡ Some TooManyVariables
            unfolding load_refusal
            load_variables e = rw (le-ltb 7 u inside, free, fine, clear, e)

            module _ (fit : too_many_variables (standing (set units u (Some text))) ≡ false) where
              pub load_words : too_many_words (standing (set units u (Some text))) ≡ true → load_refusal units u text ≡ Some TooManyWords
              unfolding load_refusal
              load_words e = rw (le-ltb 7 u inside, free, fine, clear, fit, e)

              module _ (few : too_many_words (standing (set units u (Some text))) ≡ false) where
                pub load_calls : too_many_calls (standing (set units u (Some text))) ≡ true → load_refusal units u text ≡ Some TooManyCalls
                unfolding load_refusal
                load_calls e = rw (le-ltb 7 u inside, free, fine, clear, fit, few, e)

                pub load_accepted : too_many_calls (standing (set units u (Some text))) ≡ false → load_refusal units u text ≡ None
                unfolding load_refusal
                load_accepted e = rw (le-ltb 7 u inside, free, fine, clear, fit, few, e)

-- ---- the limits, by counts

module _ (texts : List (List ℕ)) (n : ℕ) where
  pub words_over : length (words texts) ≡ n → 512 < n → too_many_words texts ≡ true
  unfolding too_many_words
  words_over e h = lt-ltb 512 (length (words texts)) (omega (arith, e))

  pub words_within : length (words texts) ≡ n → n ≤ 512 → too_many_words texts ≡ false
  unfolding too_many_words
  words_within e h = le-ltb 512 (length (words texts)) (omega (arith, e))

  pub calls_over : length (indirect_calls texts) ≡ n → 64 < n → too_many_calls texts ≡ true
  unfolding too_many_calls
  calls_over e h = lt-ltb 64 (length (indirect_calls texts)) (omega (arith, e))

  pub calls_within : length (indirect_calls texts) ≡ n → n ≤ 64 → too_many_calls texts ≡ false
  unfolding too_many_calls
  calls_within e h = le-ltb 64 (length (indirect_calls texts)) (omega (arith, e))
