-- The items of a text are its statements, one after another. Assumes nothing.
use Rattle.std.proofs.Common.{◌≡◌, ℕ, ◌<◌, ◌≤◌, List, [], ◌∷◌, length, Some, None, Ok, Err, Option, Result, sym, refl, ap, ◌∙◌, subst, arith}
use Rattle.std.proofs.lemmas.Iterator.{YieldsList}
use Rattle.std.proofs.lemmas.Iterator.Splits.{YieldsList-from_shown_while}
use Rattle.grammar.specs.declared.state.Found.{Found}
use Rattle.grammar.specs.declared.unit.Items.{Items}
use Rattle.grammar.specs.Parse.{Statement, with}
use Rattle.grammar.specs.Meanings.{statements_from, statement_in}
use Rattle.grammar.specs.Units.{or_none, ItemAt}
use Rattle.grammar.specs.Items.{text_of, offset_of, GivesItem}
use Rattle.grammar.proofs.Reading.{Left}

-- statements that begin with one
record Begun (s : Statement) (r : Result (List Statement) ℕ) (ss : List Statement) : Type 0 where
  rest : List Statement
  after : r ≡ Ok rest
  all : ss ≡ s ∷ rest

begun_with : (s : Statement) (r : Result (List Statement) ℕ) (ss : List Statement) → with s r ≡ Ok ss → Begun s r ss
begun_with s (Ok rest) ss e = record { rest = rest; after = refl; all = cc }
begun_with s (Err off) ss e = let z : ◌≡◌ {A = ℕ} 0 1 = cc in absurd (omega arith)

module _ (text : List ℕ) (s t : Items) where
  item_begun : (f : Found) (ss : List Statement) → text_of s ≡ text → GivesItem s (Some f) t → statements_from text (offset_of s) ≡ Ok ss
      → Begun (statement_in text f) (statements_from text (offset_of t)) ss
  item_begun f ss e given read =
      let at : ItemAt text (offset_of s) (Some f) = subst (λ (bs : List ℕ). ItemAt bs (offset_of s) (Some f)) e given.1 in
      let here = begun_with (statement_in text f) (statements_from text f.end) ss (sym at.0 ∙ read) in
      record { rest = here.rest; after = ap (statements_from text) given.2 ∙ here.after; all = here.all }

  items_ended : (ss : List Statement) → text_of s ≡ text → GivesItem s None t → statements_from text (offset_of s) ≡ Ok ss → ss ≡ []
  items_ended ss e given read = (subst (λ (bs : List ℕ). ItemAt bs (offset_of s) None) e given.1) ss read

  pub item_at : (r : Option Found) → text_of s ≡ text → GivesItem s r t → ItemAt text (offset_of s) r
  item_at r e given = subst (λ (bs : List ℕ). ItemAt bs (offset_of s) r) e given.1

  -- the iterator goes on, and stays within the text
  pub item_onward : (f : Found) → text_of s ≡ text → GivesItem s (Some f) t → (text_of t ≡ text) × (offset_of s < offset_of t) × (offset_of t ≤ length text)
  item_onward f e given =
      let at : ItemAt text (offset_of s) (Some f) = subst (λ (bs : List ℕ). ItemAt bs (offset_of s) (Some f)) e given.1 in
      (given.0 ∙ e, omega (arith, at.1, given.2), omega (arith, at.2, given.2))

  -- of what is left, one statement was found, or none is left
  module _ {P : List Statement → Type 0} (h : Left text (offset_of s) P) where
    pub item_more : (Q : List Statement → Type 0) (f : Found) → text_of s ≡ text → GivesItem s (Some f) t → ((ss : List Statement) → P (statement_in text f ∷ ss) → Q ss) → Left text (offset_of t) Q
    item_more Q f e given step =
        let here = item_begun f h.rest e given h.read in record { rest = here.rest; read = here.after; holds = step here.rest (subst P here.all h.holds) }

    pub item_none : text_of s ≡ text → GivesItem s None t → P []
    item_none e given = subst P (items_ended h.rest e given h.read) h.holds

-- where the statements from an offset on are these, the iterator yields them
record Reads (text : List ℕ) (s : Items) : Type 0 where
  same : text_of s ≡ text
  statements : List Statement
  read : statements_from text (offset_of s) ≡ Ok statements

abbrev shown : List ℕ → Items → List Statement
shown text s = or_none (statements_from text (offset_of s))

shown_none : (text : List ℕ) (s t : Items) → Reads text s → GivesItem s None t → length (shown text s) ≡ 0
shown_none text s t h given = ap (λ (r : Result (List Statement) ℕ). length (or_none r)) h.read ∙ ap length (items_ended text s t h.statements h.same given h.read)

shown_some : (text : List ℕ) (s : Items) (f : Found) (t : Items) → Reads text s → GivesItem s (Some f) t → Reads text t × (shown text s ≡ statement_in text f ∷ shown text t)
shown_some text s f t h given =
    let here = item_begun text s t f h.statements h.same given h.read in (
      record { same = given.0 ∙ h.same; statements = here.rest; read = here.after },
      ap (λ (r : Result (List Statement) ℕ). or_none r) h.read ∙ here.all ∙ sym (ap (λ (r : Result (List Statement) ℕ). statement_in text f ∷ or_none r) here.after),
    )

pub items_yield : (text : List ℕ) (s : Items) (ss : List Statement) → text_of s ≡ text → statements_from text (offset_of s) ≡ Ok ss → YieldsList GivesItem (statement_in text) s ss
items_yield text s ss e read =
    subst (YieldsList GivesItem (statement_in text) s) (ap (λ (r : Result (List Statement) ℕ). or_none r) read)
    (YieldsList-from_shown_while GivesItem (statement_in text) (shown text) (Reads text) (shown_none text) (shown_some text) s (record { same = e; statements = ss; read = read }))
