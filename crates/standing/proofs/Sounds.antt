-- Soundness out of its ghost field.
use Rattle.std.proofs.Common.{◌≡◌, ℕ, true, List, [], replicate, is_ok, Some, None, Ok, Err, Option, Result, refl, ap, arith}
use mathlib.Core.HLevel.{Discrete, hedberg}
use mathlib.Core.Logic.{∥∥₁_elim}
use native.Mathlib.Decide.{ℕ_discrete}
use std.HLevel.{Π_prop}
use denote.Struct.Props.{props}
use Rattle.grammar.specs.declared.unit.UnitFault.{UnitFault}
use Rattle.grammar.specs.declared.unit_text.UnitText.{UnitText}
use Rattle.names.specs.declared.record.NameRecord.{NameRecord}
use Rattle.names.specs.declared.table.NameTable.{NameTable}
use Rattle.names.specs.Notes.{note_of}
use Rattle.names.specs.Held.{held, notes}
use Rattle.books.specs.Books.{table, words, indirect_calls, Book, Book-prop}
use Rattle.books.proofs.Loads.{nothing_stands}
use Rattle.standing.specs.Knowledge.{size_in, units_in, defined_in, Sound, Sound-prop, Knows-prop}

option_discrete : Discrete (Option ℕ)
option_discrete None None = yes refl
option_discrete None (Some b) = no (λ e. let z : ◌≡◌ {A = ℕ} 0 1 = cc in omega arith)
option_discrete (Some a) None = no (λ e. let z : ◌≡◌ {A = ℕ} 0 1 = cc in omega arith)
option_discrete (Some a) (Some b) = elim (ℕ_discrete a b) [ yes e ↦ yes (ap Some e) | no ne ↦ no (λ e. ne (cc)) ]

book_fact : (texts : List (List ℕ)) → IsProp (Book texts)
book_fact texts =
    Book-prop (Π_prop (λ t. Π_prop (λ m. hedberg option_discrete _ _)))
    (Π_prop (λ t. Π_prop (λ u. Π_prop (λ n. Π_prop (λ a. Π_prop (λ b. Π_prop (λ x. Π_prop (λ y. hlevel props)))))))) (hlevel props) (hlevel props) (hlevel props) (hlevel props)

pub is_sound : {texts : List (Option UnitText)} {names : NameTable} {word_count call_count : ℕ}
    → ∥ Sound texts names word_count call_count ∥₁ → Sound texts names word_count call_count
is_sound s = ∥∥₁_elim s (Sound-prop (hlevel props) (book_fact _) (hlevel props) (Knows-prop (hlevel props) (hlevel props) (hlevel props)) (hlevel props) (hlevel props)) (λ x. x)

-- a text that is admitted, as the passes ask for it
pub was_read : (r : Result (Unit {0}) UnitFault) → is_ok r ≡ true → Ok tt ≡ r
was_read (Ok done) e = refl
was_read (Err f) e = let z : ◌≡◌ {A = ℕ} 0 1 = cc in absurd (omega arith)

-- nothing stands, and no name is known
pub new_sound : (t : NameTable) → held t ≡ [] → Sound (replicate 8 None) t 0 0
unfolding table words indirect_calls
new_sound t new =
    record {
      eight = refl;
      book = nothing_stands;
      admitted = λ x x_in. absurd x_in;
      known = record { sizes = λ n. ap size_in (unknown n); counts = λ n. ap units_in (unknown n); defined = λ n. ap defined_in (unknown n) };
      words_counted = refl;
      calls_counted = refl;
    }
  where
    unknown : (n : List ℕ) → notes t n ≡ None
    unknown n = ap (λ (rs : List NameRecord). note_of rs n) new
