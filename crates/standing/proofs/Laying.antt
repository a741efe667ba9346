-- A text's names, and those of all standing units, laid out.
use Rattle.std.proofs.Common.{◌≡◌, ℕ, zero, suc, ◌+◌, ◌<◌, ◌≤◌, Bool, true, false, cond, eqb, List, [], ◌∷◌, ◌++◌, get_or, take, Some, None, Option, sym, refl, ap, ◌∙◌, subst, inl, inr, append_assoc, add-one, arith}
use Rattle.std.specs.List.{flat_map, AllByRecursion}
use Rattle.std.specs.Str.{bytes_eq}
use Rattle.std.proofs.lemmas.List.{append-nil}
use Rattle.std.proofs.lemmas.Bool.{cond-true, cond-false}
use Rattle.constraints.specs.Constraint.{variables}
use Rattle.lexemes.specs.Texts.{name_in_text}
use Rattle.declarations.specs.declared.cursor.Declaration.{Declaration}
use Rattle.declarations.specs.Declarations.{Entry, size_of, Mention, declares, uses, calls, entry, declared_in, declarations_in}
use Rattle.declarations.specs.Meanings.{declaration_in}
use Rattle.declarations.proofs.Kept.{all_declarations}
use Rattle.names.specs.declared.record.Note.{Note}
use Rattle.books.specs.Members.{◌⊆◌}
use Rattle.books.specs.Tables.{Once, distinct, blocks}
use Rattle.books.specs.Books.{Units, standing, table}
use Rattle.books.specs.Counts.{Short}
use Rattle.books.proofs.Tables.{bytes_same, size_distinct}
use Rattle.books.proofs.Sizes.{other_name}
use Rattle.books.proofs.Lists.{text_grows}
use Rattle.books.proofs.Declared.{declared_once}
use Rattle.books.proofs.Legal.{names_are_short}
use Rattle.books.proofs.Loads.{fewer_then}
use Rattle.books.proofs.Counts.{at_end, behind, stood_there}
use Rattle.standing.specs.Knowledge.{size_in, Knows}
use Rattle.standing.specs.States.{bytes_in}
use Rattle.standing.specs.Layout.{SameNotes, Fits, Layable, lay_entry, lay_all, StandingTexts}

-- ---- one declaration of a text

lay_grows : (es : List Entry) (e : Entry) → variables (blocks es) ≤ variables (blocks (lay_entry es e))
lay_grows es e = go (eqb (size_of es e.name) 0)
  where
    go : (b : Bool) → variables (blocks es) ≤ variables (blocks (cond b (es ++ e ∷ []) es))
    go true = omega (arith, (behind es (e ∷ [])).all)
    go false = omega arith

laying_grows : (es : List Entry) (ds : List Mention) → variables (blocks es) ≤ variables (blocks (lay_all es ds))
laying_grows es [] = omega arith
laying_grows es (declares e n k ∷ ds) = let one : Entry = record { name = n.bytes; slots = k } in omega (arith, lay_grows es one, laying_grows (lay_entry es one) ds)
laying_grows es (uses p ∷ ds) = laying_grows es ds
laying_grows es (calls f k ∷ ds) = laying_grows es ds

module _ (units : Units) (es : List Entry) (text : List ℕ) (unit : ℕ) (d : Declaration) (ds : List Mention) (b : List ℕ) (known : List ℕ → Option Note)
    (there : get_or units unit None ≡ Some text) (bytes : b ≡ (name_in_text text d.name).bytes) (can : Layable es (declaration_in text d ∷ ds) known) where
  abbrev pub here : Entry
  here = record { name = b; slots = d.slots }

  pub fits_one : Fits units es here (record { unit = unit; span = d.name }) (known b)
  fits_one =
      record {
        size = subst (λ (n : List ℕ). size_in (known n) ≡ suc d.slots) (sym bytes) (can.sizes _ (omega (arith, own)) ∙ own);
        small = can.short.0.2;
        room = subst (λ (n : List ℕ). variables (blocks (lay_entry es (record { name = n; slots = d.slots }))) ≤ 256) (sym bytes)
            (omega (arith, laying_grows (lay_entry es (record { name = (name_in_text text d.name).bytes; slots = d.slots })) ds, can.room));
        read = ap (λ (o : Option (List ℕ)). bytes_in o d.name) there ∙ sym bytes;
      }
    where
      own : size_of (flat_map entry (declaration_in text d ∷ ds)) (name_in_text text d.name).bytes ≡ suc d.slots
      own = cond-true _ _ _ (bytes_same (name_in_text text d.name).bytes)

  pub lay_here : lay_all es (declaration_in text d ∷ ds) ≡ lay_all (lay_entry es here) ds
  lay_here = ap (λ (n : List ℕ). lay_all (lay_entry es (record { name = n; slots = d.slots })) ds) (sym bytes)

  pub can_more : (after : List ℕ → Option Note) → SameNotes known after → Layable (lay_entry es here) ds after
  can_more after same =
      record {
        once = can.once.1;
        short = can.short.1;
        sizes = λ n lt.
            let other = other_name (record { name = (name_in_text text d.name).bytes; slots = d.slots }) (flat_map entry ds) n can.once.0 lt in
            let whole = cond-false (bytes_eq (name_in_text text d.name).bytes n) (suc d.slots) (size_of (flat_map entry ds) n) other in
            same.sizes n ∙ can.sizes n (omega (arith, whole)) ∙ whole;
        room = subst (λ (fs : List Entry). variables (blocks fs) ≤ 256) lay_here can.room;
      }

-- ---- all units

pub lay_distinct : (es : List Entry) (ds : List Mention) → lay_all (distinct es) ds ≡ distinct (es ++ flat_map entry ds)
lay_distinct es [] = ap distinct (sym (append-nil es))
lay_distinct es (uses p ∷ ds) = lay_distinct es ds
lay_distinct es (calls f k ∷ ds) = lay_distinct es ds
lay_distinct es (declares e n k ∷ ds) =
    let one : Entry = record { name = n.bytes; slots = k } in
    ap (λ (x : ℕ). lay_all (cond (eqb x 0) (distinct es ++ one ∷ []) (distinct es)) ds) (size_distinct es n.bytes)
    ∙ ap (λ (fs : List Entry). lay_all fs ds) (sym (at_end es one)) ∙ lay_distinct (es ++ one ∷ []) ds ∙ ap distinct (append_assoc es (one ∷ []) (flat_map entry ds))

pub standing_more : (units : Units) (u : ℕ) (t : List ℕ) → get_or units u None ≡ Some t → standing (take (u + 1) units) ≡ standing (take u units) ++ t ∷ []
standing_more units u t e = rw add-one (go units u e)
  where
    go : (us : Units) (v : ℕ) → get_or us v None ≡ Some t → standing (take (suc v) us) ≡ standing (take v us) ++ t ∷ []
    go [] v h = let z : ◌≡◌ {A = ℕ} 0 1 = cc in absurd (omega arith)
    go (None ∷ us) zero h = let z : ◌≡◌ {A = ℕ} 0 1 = cc in absurd (omega arith)
    go (Some s ∷ us) zero h = let same : s ≡ t = cc in ap (λ (x : List ℕ). x ∷ []) same
    go (None ∷ us) (suc v) h = go us v h
    go (Some s ∷ us) (suc v) h = ap (λ (ts : List (List ℕ)). s ∷ ts) (go us v h)

pub standing_same : (units : Units) (u : ℕ) → get_or units u None ≡ None → standing (take (u + 1) units) ≡ standing (take u units)
standing_same units u e = rw add-one (go units u e)
  where
    go : (us : Units) (v : ℕ) → get_or us v None ≡ None → standing (take (suc v) us) ≡ standing (take v us)
    go [] zero h = refl
    go [] (suc v) h = refl
    go (None ∷ us) zero h = refl
    go (Some s ∷ us) zero h = let z : ◌≡◌ {A = ℕ} 0 1 = cc in absurd (omega arith)
    go (None ∷ us) (suc v) h = go us v h
    go (Some s ∷ us) (suc v) h = ap (λ (ts : List (List ℕ)). s ∷ ts) (go us v h)

still_there : (units : Units) (u : ℕ) → standing (take u units) ⊆ standing units
still_there [] zero t h = h
still_there [] (suc u) t h = h
still_there (x ∷ us) zero t h = absurd h
still_there (None ∷ us) (suc u) t h = still_there us u t h
still_there (Some s ∷ us) (suc u) t (inl e) = inl e
still_there (Some s ∷ us) (suc u) t (inr h) = inr (still_there us u t h)

joined_push : (ts : List (List ℕ)) (t : List ℕ) → flat_map declared_in (ts ++ t ∷ []) ≡ flat_map declared_in ts ++ declared_in t
joined_push [] t = append-nil (declared_in t)
joined_push (s ∷ ts) t = ap (λ (es : List Entry). declared_in s ++ es) (joined_push ts t) ∙ sym (append_assoc (declared_in s) (flat_map declared_in ts) (declared_in t))

module _ (units : Units) (u : ℕ) (t : List ℕ) (known : List ℕ → Option Note) (texts : StandingTexts units) (knows : Knows known (standing units)) (there : get_or units u None ≡ Some t) where
  pub table_more : lay_all (table (standing (take u units))) (declarations_in t) ≡ table (standing (take (u + 1) units))
  unfolding table
  table_more =
      lay_distinct (flat_map declared_in (standing (take u units))) (declarations_in t)
      ∙ ap (λ (es : List Entry). distinct (flat_map declared_in (standing (take u units)) ++ es)) (sym (all_declarations t).entries)
      ∙ ap distinct (sym (joined_push (standing (take u units)) t)) ∙ ap (λ (ts : List (List ℕ)). distinct (flat_map declared_in ts)) (sym (standing_more units u t there))

  pub layable : Layable (table (standing (take u units))) (declarations_in t) known
  layable =
      let entries = (all_declarations t).entries in
      record {
        once = subst Once entries (declared_once t (texts.book.faultless t (stood_there units u t there)));
        short = subst (AllByRecursion Short) entries (names_are_short t);
        sizes = subst (λ (es : List Entry). (n : List ℕ) → 0 < size_of es n → size_in (known n) ≡ size_of es n) entries
            (λ n lt. knows.sizes n ∙ text_grows (standing units) texts.book.agreed t (stood_there units u t there) n lt);
        room = subst (λ (es : List Entry). variables (blocks es) ≤ 256) (sym table_more)
            (omega (arith, fewer_then (standing (take (u + 1) units)) (standing units) texts.book.agreed (still_there units (u + 1)), texts.book.few));
      }
