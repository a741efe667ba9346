-- Whatever was called, eight unit numbers have their places, and the texts that stand keep the rules.
use Rattle.std.proofs.Common.{◌≡◌, ℕ, Bool, true, false, cond, ltb, List, [], ◌∷◌, length, get_or, set, is_some, Some, None, Ok, Err, Option, Result, refl, ◌∙◌, arith}
use Rattle.std.proofs.lemmas.List.{length-set}
use Rattle.std.proofs.lemmas.Bool.{ltb-false}
use Rattle.grammar.specs.declared.unit.UnitFault.{UnitFault}
use Rattle.grammar.specs.Units.{outcome, read}
use Rattle.declarations.specs.Declarations.{fault_in}
use Rattle.books.specs.Books.{Units, standing, Book as Lawful}
use Rattle.books.specs.Loads.{Admitted, clash}
use Rattle.books.proofs.Loads.{nothing_stands, load_keeps, unload_keeps}
use Rattle.engine.specs.Meanings.{Rule}
use Rattle.standing.specs.declared.refusal.UnitRefusal.{UnitRefusal}
use Rattle.standing.specs.declared.refusal.UnitRefusal.TheVariants.{NoSuchUnit, UnitStands, TooManyVariables, TooManyWords, TooManyCalls}
use Rattle.standing.specs.Loads.{stands, load_refusal, unload_refusal, unless, text_fault, text_fault_by, declaration_at, clashing}
use Rattle.standing.specs.Refusals.{refused_if, refused_text, earliest}
use Rattle.histories.specs.declared.call.Call.{Call}
use Rattle.histories.specs.declared.call.Call.TheVariants.{Settle, Load, Unload, Ask, Targets}
use Rattle.host_analyser.specs.Books.{Book, new_book, texts_of, book_list, unsettled}
use Rattle.histories.specs.Books.{next_book, book_from}

none_some : {X : Type 0} {x : X} {P : Type 0} → ◌≡◌ {A = Option X} (Some x) None → P
none_some e = cc e

-- where nothing refuses, no reason applies
all_none : (o : Option UnitRefusal) (os : List (Option UnitRefusal)) → earliest (o ∷ os) ≡ None → (o ≡ None) × (earliest os ≡ None)
all_none None os e = (refl, e)
all_none (Some f) os e = none_some e

not_if : (b : Bool) (f : UnitRefusal) → refused_if b f ≡ None → b ≡ false
not_if true f e = none_some e
not_if false f e = refl

free_slot : (o : Option (List ℕ)) → is_some o ≡ false → o ≡ None
free_slot None e = refl
free_slot (Some t) e = cc e

not_text : (o : Option UnitFault) → refused_text o ≡ None → o ≡ None
not_text None e = refl
not_text (Some f) e = none_some e

no_declaration : (text : List ℕ) (o : Option ℕ) → declaration_at text o ≡ None → o ≡ None
no_declaration text None e = refl
no_declaration text (Some at) e = none_some e

no_later : (r : Result (Unit {0}) UnitFault) (o : Option UnitFault) → text_fault_by r o ≡ None → o ≡ None
no_later (Ok x) o e = e
no_later (Err f) o e = none_some e

pub text_faultless : (text : List ℕ) → text_fault text ≡ None → fault_in text ≡ None
unfolding text_fault
text_faultless text e = no_declaration text (fault_in text) (no_later (outcome (read text)) (declaration_at text (fault_in text)) e)

not_clashing : (text : List ℕ) (o : Option ℕ) → clashing text o ≡ None → o ≡ None
not_clashing text None e = refl
not_clashing text (Some at) e = none_some e

pub admitted : (units : Units) (u : ℕ) (text : List ℕ) → length units ≡ 8 → load_refusal units u text ≡ None → Admitted units u text
unfolding load_refusal
admitted units u text eight e =
    let (number, past_number) = all_none _ _ e in
    let (free, past_free) = all_none _ _ past_number in
    let (lone, past_lone) = all_none _ _ past_free in
    let (clear, past_clash) = all_none _ _ past_lone in
    let (variables_in, past_variables) = all_none _ _ past_clash in
    let (words_in, past_words) = all_none _ _ past_variables in
    let (calls_in, _) = all_none _ _ past_words in
    let few = ltb-false 7 u (not_if (ltb 7 u) NoSuchUnit number) in
    record {
      number_in = omega (arith, few, eight);
      free = free_slot (get_or units u None) (not_if (stands units u) UnitStands free);
      faultless = text_faultless text (not_text (text_fault text) lone);
      no_clash = not_clashing text (clash (standing units) text) clear;
      variables_in = not_if _ TooManyVariables variables_in;
      words_in = not_if _ TooManyWords words_in;
      calls_in = not_if _ TooManyCalls calls_in;
    }

-- eight places, and what stands keeps the rules
pub record Ordered (b : Book) : Type 0 where
  pub eight : length b.units ≡ 8
  pub lawful : Lawful (texts_of b)

load_ordered : (b : Book) (u : ℕ) (t : List ℕ) (o : Option UnitRefusal) → load_refusal b.units u t ≡ o → Ordered b
    → Ordered (unless o (unsettled (set b.units u (Some t))) b)
load_ordered b u t None e ordered =
    record {
      eight = length-set b.units u (Some t) ∙ ordered.eight;
      lawful = load_keeps b.units u t ordered.lawful (admitted b.units u t ordered.eight e);
    }
load_ordered b u t (Some f) e ordered = ordered

unload_ordered : (b : Book) (u : ℕ) (o : Option UnitRefusal) → Ordered b → Ordered (unless o (unsettled (set b.units u None)) b)
unload_ordered b u None ordered = record { eight = length-set b.units u None ∙ ordered.eight; lawful = unload_keeps b.units u ordered.lawful }
unload_ordered b u (Some f) ordered = ordered

settle_ordered : (b : Book) (fits : Bool) → Ordered b → Ordered (cond fits (record { units = b.units; settled = true }) b)
settle_ordered b true ordered = record { eight = ordered.eight; lawful = ordered.lawful }
settle_ordered b false ordered = ordered

next_ordered : (rule : Rule) (b : Book) (c : Call) → Ordered b → Ordered (next_book rule b c)
next_ordered rule b Settle ordered = settle_ordered b (rule.fits (book_list b)) ordered
next_ordered rule b (Load u t) ordered = load_ordered b u t.now (load_refusal b.units u t.now) refl ordered
next_ordered rule b (Unload u) ordered = unload_ordered b u (unload_refusal b.units u) ordered
next_ordered rule b (Ask q) ordered = ordered
next_ordered rule b (Targets u i buffer) ordered = ordered

from_ordered : (rule : Rule) (b : Book) (cs : List Call) → Ordered b → Ordered (book_from rule b cs)
from_ordered rule b [] ordered = ordered
from_ordered rule b (c ∷ cs) ordered = from_ordered rule (next_book rule b c) cs (next_ordered rule b c ordered)

pub history_lawful : (rule : Rule) (cs : List Call) → Lawful (texts_of (book_from rule new_book cs))
history_lawful rule cs = (from_ordered rule new_book cs (record { eight = refl; lawful = nothing_stands })).lawful
