-- A text's statements, one after another. Assumes nothing.
use Rattle.std.proofs.Common.{◌≡◌, ℕ, List, [], ◌∷◌, ◌++◌, map, length, Some, None, Ok, Err, Option, Result, sym, refl, ap, ◌∙◌, subst}
use Rattle.grammar.specs.Faults.{Reading}
use Rattle.lexemes.specs.Lexemes.{pieces_from}
use Rattle.lexemes.specs.Texts.{first_at}
use Rattle.lexemes.proofs.Lexical.{text_lexical}
use Rattle.grammar.specs.Parse.{Statement, item_of, with, items}
use Rattle.lexemes.specs.declared.location.Location.{Location}
use Rattle.grammar.specs.declared.state.Found.{Found}
use Rattle.grammar.specs.Meanings.{statement_in, statements_from, statements_of, verdict, Checked}
use Rattle.grammar.proofs.Recognises.{recognised}

-- statements before the others
abbrev pub with_all : List Statement → Result (List Statement) ℕ → Result (List Statement) ℕ
with_all [] r = r
with_all (s ∷ ss) r = with s (with_all ss r)

with_more : (ss : List Statement) (s : Statement) (r : Result (List Statement) ℕ) → with_all ss (with s r) ≡ with_all (ss ++ s ∷ []) r
with_more [] s r = refl
with_more (t ∷ ss) s r = ap (with t) (with_more ss s r)

with_none : (ss : List Statement) → with_all ss (Ok []) ≡ Ok ss
with_none [] = refl
with_none (s ∷ ss) = ap (with s) (with_none ss)

with_fault : (ss : List Statement) (off : ℕ) → with_all ss (Err off) ≡ Err off
with_fault [] off = refl
with_fault (s ∷ ss) off = ap (with s) (with_fault ss off)

-- the statements up to an offset, of which P holds
pub record Walked (text : List ℕ) (at : ℕ) (P : List Statement → Type 0) : Type 0 where
  pub statements : List Statement
  pub holds : P statements
  pub read : statements_from text 0 ≡ with_all statements (statements_from text at)

pub walk_none : (text : List ℕ) (P : List Statement → Type 0) → P [] → Walked text 0 P
walk_none text P h = record { statements = []; holds = h; read = refl }

module _ {text : List ℕ} {at : ℕ} {P : List Statement → Type 0} (h : Walked text at P) where
  pub walk_more : (Q : List Statement → Type 0) (r : Result (Option Found) ℕ) (f : Found) → statements_from text at ≡ statements_of text r → r ≡ Ok (Some f) →
      ((ss : List Statement) → P ss → Q (ss ++ statement_in text f ∷ [])) → Walked text f.end Q
  walk_more Q r f e is step =
      record {
        statements = h.statements ++ statement_in text f ∷ [];
        holds = step h.statements h.holds;
        read = h.read ∙ ap (with_all h.statements) (e ∙ ap (statements_of text) is) ∙ with_more h.statements (statement_in text f) _;
      }

  -- at the end
  pub walk_all : (r : Result (Option Found) ℕ) → statements_from text at ≡ statements_of text r → r ≡ Ok None → statements_from text 0 ≡ Ok h.statements
  walk_all r e is = h.read ∙ ap (with_all h.statements) (e ∙ ap (statements_of text) is) ∙ with_none h.statements

  -- at a fault
  pub walk_fault : (off : ℕ) → statements_from text at ≡ Err off → statements_from text 0 ≡ Err off
  walk_fault off e = h.read ∙ ap (with_all h.statements) e ∙ with_fault h.statements off

pub checked : (text : List ℕ) (r : Result (List Statement) ℕ) → statements_from text 0 ≡ r → Reading (length text) (pieces_from text 0) (items r)
checked text r e =
    subst (λ (x : Result (List Statement) ℕ). Reading (length text) (pieces_from text 0) (items x)) e
    (recognised (length text) (first_at (pieces_from text 0)) (pieces_from text 0) (text_lexical text 0))

judged : (text : List ℕ) (r : Result (List Statement) ℕ) → statements_from text 0 ≡ r → Checked text (verdict text r)
judged text (Ok ss) e = (map item_of ss, checked text (Ok ss) e)
judged text (Err off) e = let (fault, none) = checked text (Err off) e in (fault, refl, none)

-- what the statements of a text say of it
pub verdict_right : (text : List ℕ) (r : Result (Prim.Unit {0}) Location) → r ≡ verdict text (statements_from text 0) → Checked text r
verdict_right text r e = subst (Checked text) (sym e) (judged text (statements_from text 0) refl)
