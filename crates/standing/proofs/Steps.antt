-- One declaration more of a pass, as the code goes through it.
use Rattle.std.proofs.Common.{◌≡◌, ℕ, ◌+◌, Bool, true, false, ◌&&◌, List, ◌∷◌, is_ok, is_err, Some, Ok, Err, Option, Result, sym, refl, ap, ◌∙◌}
use Rattle.declarations.specs.declared.cursor.Declaration.{Declaration}
use Rattle.lexemes.specs.Texts.{name_in_text}
use Rattle.declarations.specs.Declarations.{Mention}
use Rattle.declarations.specs.Meanings.{declaration_in}
use Rattle.names.specs.declared.record.Note.{Note}
use Rattle.names.specs.declared.table.NameTable.{NameTable}
use Rattle.names.specs.declared.table.TableFull.{TableFull}
use Rattle.names.specs.Notes.{lowered, then_note, with_note}
use Rattle.names.specs.Tables.{mention_reply, after_mention, mention_adds}
use Rattle.names.specs.Held.{notes, variables_of}
use Rattle.books.specs.Books.{is_defined}
use Rattle.standing.specs.Passes.{Known, known_in, fits_one, enter_one, fit_all, enter_all, forget_all}

pub err_not_ok : {X F : Type 0} (r : Result X F) → is_err r ≡ true → is_ok r ≡ false
err_not_ok (Ok x) e = sym e
err_not_ok (Err f) e = refl

-- the declaration d of a text, whose name has the bytes b
module _ (text : List ℕ) (d : Declaration) (b : List ℕ) (bytes : b ≡ (name_in_text text d.name).bytes) where
  -- a mention that was replied r left the table t'
  module _ (t t' : NameTable) (defines : Bool) (r : Result (Unit {0}) TableFull) (is : defines ≡ is_defined d.linkage)
      (reply : r ≡ mention_reply (notes t b) (variables_of t) b d.slots) where
    pub fits_here : fits_one (known_in t) (declaration_in text d) ≡ is_ok r
    fits_here = ap (λ (n : List ℕ). is_ok (mention_reply (notes t n) (variables_of t) n d.slots)) (sym bytes) ∙ ap is_ok (sym reply)

    module _ (noted : notes t' ≡ with_note (notes t) b (after_mention (notes t b) (variables_of t) b d.slots defines))
        (counted : variables_of t' ≡ variables_of t + mention_adds (notes t b) (variables_of t) b d.slots) where
      abbrev made : List ℕ → Bool → Known
      made n f =
          record {
            known = with_note (notes t) n (after_mention (notes t n) (variables_of t) n d.slots f);
            variables = variables_of t + mention_adds (notes t n) (variables_of t) n d.slots;
          }

      pub enter_here : enter_one (known_in t) (declaration_in text d) ≡ known_in t'
      enter_here =
          ap (λ (n : List ℕ). made n (is_defined d.linkage)) (sym bytes) ∙ ap (made b) (sym is)
          ∙ ap (λ (f : List ℕ → Option Note). record { known = f; variables = variables_of t + mention_adds (notes t b) (variables_of t) b d.slots }) (sym noted)
          ∙ ap (λ (v : ℕ). record { known = notes t'; variables = v }) (sym counted)

      pub fit_more : (ds : List Mention) → r ≡ Ok tt → fit_all (known_in t) (declaration_in text d ∷ ds) ≡ fit_all (known_in t') ds
      fit_more ds ok = ap (λ (l : Bool). l && fit_all (enter_one (known_in t) (declaration_in text d)) ds) (fits_here ∙ ap is_ok ok) ∙ ap (λ (k : Known). fit_all k ds) enter_here

      pub enter_more : (ds : List Mention) → enter_all (known_in t) (declaration_in text d ∷ ds) ≡ enter_all (known_in t') ds
      enter_more ds = ap (λ (k : Known). enter_all k ds) enter_here

    pub fit_no_more : (ds : List Mention) (f : TableFull) → r ≡ Err f → fit_all (known_in t) (declaration_in text d ∷ ds) ≡ false
    fit_no_more ds f err = ap (λ (l : Bool). l && fit_all (enter_one (known_in t) (declaration_in text d)) ds) (fits_here ∙ ap is_ok err)

  pub forget_more : (t t' : NameTable) (defines : Bool) → defines ≡ is_defined d.linkage
      → notes t' ≡ with_note (notes t) b (then_note (λ note. Some (lowered note defines)) (notes t b))
      → (ds : List Mention) → forget_all (notes t) (declaration_in text d ∷ ds) ≡ forget_all (notes t') ds
  forget_more t t' defines is noted ds =
      ap (λ (f : List ℕ → Option Note). forget_all f ds)
      (ap (λ (n : List ℕ). with_note (notes t) n (then_note (λ note. Some (lowered note (is_defined d.linkage))) (notes t n))) (sym bytes)
      ∙ ap (λ (f : Bool). with_note (notes t) b (then_note (λ note. Some (lowered note f)) (notes t b))) (sym is) ∙ sym noted)
