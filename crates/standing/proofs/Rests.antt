-- What is left of a text's declarations on the way through it.
use Rattle.std.proofs.Common.{◌≡◌, ℕ, List, [], ◌∷◌, Some, None, Ok, ap, ◌∙◌, subst}
use Rattle.grammar.specs.Units.{read, outcome}
use Rattle.declarations.specs.declared.cursor.Declaration.{Declaration}
use Rattle.declarations.specs.Declarations.{Mention, declarations_in}
use Rattle.declarations.specs.Meanings.{declaration_in, declarations_from, NextDeclaration}
use Rattle.declarations.proofs.Kept.{all_declarations}
use Rattle.standing.specs.declared.cursor.Declarations.{Declarations}
use Rattle.standing.specs.Cursors.{text_read, offset_of, GivesDeclaration}

-- the declarations from an offset on, of which P holds
pub record Rest (text : List ℕ) (at : ℕ) (P : List Mention → Type 0) : Type 0 where
  pub rest : List Mention
  pub found : declarations_from text at ≡ Ok rest
  pub holds : P rest

pub rest_all : (text : List ℕ) (at : ℕ) (P : List Mention → Type 0) → Ok tt ≡ outcome (read text) → at ≡ 0 → P (declarations_in text) → Rest text at P
rest_all text at P admitted start h = record {
  rest = declarations_in text;
  found = ap (declarations_from text) start ∙ (all_declarations text).whole admitted;
  holds = h;
}

module _ {text : List ℕ} {s t : Declarations} {P : List Mention → Type 0} (h : Rest text (offset_of s) P) (same : text_read s ≡ text) where
  -- P of the declaration that was found and of those after it
  pub rest_here : (d : Declaration) → GivesDeclaration s (Some d) t → Rest text (offset_of t) (λ ds. P (declaration_in text d ∷ ds))
  rest_here d given =
      let (rest, here, after) = subst (λ bs. NextDeclaration bs (offset_of s) (Some d)) same given.next h.rest h.found in
      record { rest = rest; found = ap (declarations_from text) given.past ∙ after; holds = subst P here h.holds }

  pub rest_none : GivesDeclaration s None t → P []
  rest_none given = subst P (subst (λ bs. NextDeclaration bs (offset_of s) None) same given.next h.rest h.found) h.holds

pub rest_then : {text : List ℕ} {at : ℕ} {P : List Mention → Type 0} (Q : List Mention → Type 0) → Rest text at P → ((ds : List Mention) → P ds → Q ds) → Rest text at Q
rest_then Q h step = record { rest = h.rest; found = h.found; holds = step h.rest h.holds }
