-- Questions over units that are laid out.
use Rattle.std.proofs.Common.{◌≡◌, ℕ, ◌+◌, ◌<◌, ◌≤◌, Bool, true, false, cond, not, ltb, List, [], ◌∷◌, length, get_or, is_some, Some, None, Err, Option, Result, ok_or, refl, ap, ◌∙◌, ⊎_elim, arith}
use Rattle.std.proofs.lemmas.Bool.{lt-ltb, le-ltb, cond-true, cases_lt}
use Rattle.std.proofs.lemmas.List.{length-map, get_or_past}
use Rattle.lexemes.specs.Terminals.{Name}
use Rattle.grammar.specs.Grammar.{Place}
use Rattle.units.specs.Words.{Cell}
use Rattle.units.specs.Statements.{cell}
use Rattle.declarations.specs.Declarations.{size_of}
use Rattle.names.specs.Held.{notes}
use Rattle.books.specs.Tables.{first_of, number}
use Rattle.books.specs.Books.{Units, standing, table, Book}
use Rattle.books.specs.Replies.{known, known_cell, known_name}
use Rattle.books.specs.Targets.{pointer}
use Rattle.books.proofs.Pointers.{pointers_within}
use Rattle.books.proofs.Counts.{stood_there}
use Rattle.standing.specs.declared.refusal.UnitRefusal.{UnitRefusal}
use Rattle.standing.specs.declared.refusal.UnitRefusal.TheVariants.{NoSuchUnit, NothingStands, NoSuchCall}
use Rattle.grammar.specs.declared.unit_text.UnitText.{UnitText}
use Rattle.standing.specs.declared.standing_units.StandingUnits.{StandingUnits}
use Rattle.standing.specs.Calls.{call_refusal}
use Rattle.standing.specs.Knowledge.{text_of, texts_in}
use Rattle.standing.specs.Firsts.{Places, known_variable, cell_if_within}
use Rattle.standing.specs.Refusals.{refused_if, earliest}
use Rattle.standing.specs.States.{units_of, LaidOut, cell_number, object_number, pointer_or, pointer_reply}
use Rattle.standing.proofs.Sounds.{is_sound}

pub places_of : (s : StandingUnits) → LaidOut s → Places (table (standing (units_of s))) (notes s.names)
unfolding LaidOut
places_of s laid = let h = is_sound s.sound in record { few = h.book.few; sizes = h.known.sizes; firsts = laid }

-- ---- places and names

pub place_number : (units : Units) (p : Place) → known_variable (table (standing units)) p ≡ cell_number units (known_cell (standing units) (Some p))
place_number units p = go (known (standing units) p)
  where
    go : (b : Bool) → cond b (Some (number (table (standing units)) (cell p))) None ≡ cell_number units (cond b (Some (cell p)) None)
    go true = refl
    go false = refl

pub name_number : (units : Units) (n : Name)
    → cond (ltb 0 (size_of (table (standing units)) n.bytes)) (Some (first_of (table (standing units)) n.bytes + 0)) None ≡ object_number units (known_name (standing units) (Some n))
name_number units n = go (ltb 0 (size_of (table (standing units)) n.bytes))
  where
    go : (b : Bool) → cond b (Some (first_of (table (standing units)) n.bytes + 0)) None ≡ object_number units (cond b (Some n.bytes) None)
    go true = refl
    go false = refl

-- ---- indirect calls

abbrev pub reply_of : Option ℕ → Result ℕ UnitRefusal
reply_of o = ok_or o NoSuchCall

module _ (units : Units) (u i : ℕ) where
  pub pointer_refused : (f : UnitRefusal) → get_or units u None ≡ None → f ≡ cond (ltb 7 u) NoSuchUnit NothingStands → Err f ≡ pointer_reply units u i
  unfolding call_refusal
  pointer_refused f none is = ap Err is ∙ go (ltb 7 u) refl
    where
      go : (b : Bool) → ltb 7 u ≡ b → Err (cond b NoSuchUnit NothingStands) ≡ pointer_reply units u i
      go true e = rw e
      go false e = rw (e, none)

  module _ (inside : u ≤ 7) where
    module _ (t : List ℕ) (there : get_or units u None ≡ Some t) (book : Book (standing units)) where
      pub pointer_answer : (o : Option ℕ) → o ≡ cell_if_within (table (standing units)) (pointer t i) → reply_of o ≡ pointer_reply units u i
      unfolding call_refusal
      pointer_answer o is = ap reply_of is ∙ rw (le-ltb 7 u inside, there) (go (pointer t i) refl)
        where
          go : (p : Option Cell) → pointer t i ≡ p
              → reply_of (cell_if_within (table (standing units)) p) ≡ pointer_or (earliest (refused_if (not (is_some p)) NoSuchCall ∷ [])) (cell_number units p)
          go None e = refl
          go (Some c) e =
              ap reply_of (cond-true _ _ _ (lt-ltb c.slot (size_of (table (standing units)) c.name) (pointers_within (standing units) book t (stood_there units u t there) i c e)))

-- ---- lines and names in a unit's text

pub nothing_past : (slots : List (Option UnitText)) (u : ℕ) (t : List ℕ) → length slots ≤ u → get_or (texts_in slots) u None ≡ Some t → ⊥
nothing_past slots u t past there =
    let none = get_or_past (texts_in slots) u None (omega (arith, length-map slots text_of, past)) in
    let z : ◌≡◌ {A = ℕ} 0 1 = cc in omega arith

-- a unit stands under a number of 0 to 7
pub stands_inside : (texts : List (Option UnitText)) (u : ℕ) (t : List ℕ) → length texts ≡ 8 → get_or (texts_in texts) u None ≡ Some t → u ≤ 7
stands_inside texts u t eight there =
    ⊎_elim (λ (lt : u < 8). omega arith) (λ (past : 8 ≤ u). absurd (nothing_past texts u t (omega (arith, eight)) there)) (cases_lt u 8)
