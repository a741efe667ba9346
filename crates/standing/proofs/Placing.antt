-- One name more laid out.
use Rattle.std.proofs.Common.{◌≡◌, ℕ, suc, ◌+◌, ◌<◌, ◌≤◌, Bool, true, false, cond, ltb, List, [], ◌∷◌, ◌++◌, map, length, take, Some, None, Option, sym, refl, ap, ◌∙◌, subst, not-suc-le-zero, arith}
use Rattle.std.specs.Str.{bytes_eq}
use Rattle.std.proofs.lemmas.List.{map-append}
use Rattle.std.proofs.lemmas.Bool.{lt-ltb, le-ltb, ltb-true, ltb-false, eq-eqb, ne_eqb, cond-true, cond-false}
use Rattle.constraints.specs.Constraint.{variables}
use Rattle.declarations.specs.Declarations.{Entry, size_of}
use Rattle.names.specs.declared.record.Note.{Note}
use Rattle.names.specs.Notes.{placed, then_note, with_note}
use Rattle.names.specs.Tables.{variable_at}
use Rattle.books.specs.Tables.{first_of, blocks}
use Rattle.books.specs.Books.{Units}
use Rattle.books.proofs.Tables.{same_bytes}
use Rattle.books.proofs.Counts.{behind}
use Rattle.standing.specs.declared.list.Owner.{Owner}
use Rattle.standing.specs.declared.list.UnitList.{UnitList}
use Rattle.standing.specs.Lists.{list_in, owners_in, Pushed}
use Rattle.standing.specs.Knowledge.{size_in, units_in, defined_in, Knows}
use Rattle.standing.specs.Firsts.{first_in, laid_first}
use Rattle.standing.specs.States.{owned_name, name_in_entry}
use Rattle.standing.specs.Layout.{Laid, SameNotes, Fits, lay_entry}

pub first_below : (es : List Entry) (n : List ℕ) → 0 < size_of es n → first_of es n + size_of es n ≤ variables (blocks es)
first_below [] n lt = absurd (not-suc-le-zero lt)
first_below (e ∷ es) n lt = go (bytes_eq e.name n) lt (first_below es n)
  where
    go : (b : Bool) → 0 < cond b (suc e.slots) (size_of es n) → (0 < size_of es n → first_of es n + size_of es n ≤ variables (blocks es))
        → cond b 0 (suc e.slots + first_of es n) + cond b (suc e.slots) (size_of es n) ≤ suc e.slots + variables (blocks es)
    go true h ih = omega arith
    go false h ih = let r = ih h in omega arith

few_blocks : (es : List Entry) → length (blocks es) ≤ variables (blocks es)
few_blocks [] = omega arith
few_blocks (e ∷ es) = let h = few_blocks es in omega arith

blocks_push : (es : List Entry) (e : Entry) → blocks (es ++ e ∷ []) ≡ blocks es ++ suc e.slots ∷ []
blocks_push [] e = refl
blocks_push (f ∷ es) e = ap (λ (ls : List ℕ). suc f.slots ∷ ls) (blocks_push es e)

pub unlaid : (es : List Entry) (n : List ℕ) → laid_first es n ≡ None → size_of es n ≡ 0
unlaid es n e = go (ltb 0 (size_of es n)) refl e
  where
    go : (b : Bool) → ltb 0 (size_of es n) ≡ b → cond b (Some (first_of es n)) None ≡ None → size_of es n ≡ 0
    go false none h = let z = ltb-false 0 (size_of es n) none in omega arith
    go true some h = let z : ◌≡◌ {A = ℕ} 0 1 = cc in absurd (omega arith)

pub laid_some : (es : List Entry) (n : List ℕ) → (laid_first es n ≡ None → ⊥) → 0 < size_of es n
laid_some es n ne = go (ltb 0 (size_of es n)) refl ne
  where
    go : (b : Bool) → ltb 0 (size_of es n) ≡ b → (cond b (Some (first_of es n)) None ≡ None → ⊥) → 0 < size_of es n
    go true some h = ltb-true 0 (size_of es n) some
    go false none h = absurd (h refl)

laid_push : (es : List Entry) (e : Entry) (n : List ℕ) → size_of es e.name ≡ 0
    → laid_first (es ++ e ∷ []) n ≡ cond (bytes_eq e.name n) (Some (variables (blocks es))) (laid_first es n)
laid_push es e n new = go (bytes_eq e.name n) refl (ltb 0 (size_of es n)) refl
  where
    one : List Entry
    one = e ∷ []

    go : (b : Bool) → bytes_eq e.name n ≡ b → (c : Bool) → ltb 0 (size_of es n) ≡ c
        → laid_first (es ++ e ∷ []) n ≡ cond b (Some (variables (blocks es))) (cond c (Some (first_of es n)) None)
    go true same c some =
        let none : size_of es n ≡ 0 = ap (size_of es) (sym (same_bytes e.name n same)) ∙ new in
        let size = (behind es (e ∷ [])).new_size n none ∙ cond-true (bytes_eq e.name n) (suc e.slots) 0 same in
        let first : first_of (es ++ e ∷ []) n ≡ variables (blocks es) =
        omega (arith, (behind es (e ∷ [])).new_first n none, cond-true {A = ℕ} (bytes_eq e.name n) 0 (suc e.slots + 0) same) in
        cond-true _ _ _ (lt-ltb 0 (size_of (es ++ e ∷ []) n) (omega (arith, size))) ∙ ap Some first
    go false other true some =
        let lt = ltb-true 0 (size_of es n) some in
        cond-true _ _ _ (lt-ltb 0 (size_of (es ++ e ∷ []) n) (omega (arith, (behind es (e ∷ [])).old_size n lt))) ∙ ap Some ((behind es (e ∷ [])).old_first n lt)
    go false other false none =
        let z : size_of es n ≡ 0 = let h = ltb-false 0 (size_of es n) none in omega arith in
        let size = (behind es (e ∷ [])).new_size n z ∙ cond-false (bytes_eq e.name n) (suc e.slots) 0 other in
        cond-false _ _ _ (le-ltb 0 (size_of (es ++ e ∷ []) n) (omega (arith, size)))

-- ---- the note of one name is placed

abbrev pub put_at : Option ℕ → (List ℕ → Option Note) → List ℕ → List ℕ → Option Note
put_at v known n = with_note known n (then_note (λ note. Some (placed v note)) (known n))

kept_by : {X : Type 0} (f : Option Note → X) → ((v : Option ℕ) (o : Option Note) → f (then_note (λ note. Some (placed v note)) o) ≡ f o)
    → (v : Option ℕ) (known : List ℕ → Option Note) (n m : List ℕ) → f (put_at v known n m) ≡ f (known m)
kept_by f keeps v known n m = go (bytes_eq n m) refl
  where
    go : (b : Bool) → bytes_eq n m ≡ b → f (cond b (then_note (λ note. Some (placed v note)) (known n)) (known m)) ≡ f (known m)
    go true same = keeps v (known n) ∙ ap (λ (l : List ℕ). f (known l)) (same_bytes n m same)
    go false other = refl

place_size : (v : Option ℕ) (o : Option Note) → size_in (then_note (λ note. Some (placed v note)) o) ≡ size_in o
place_size v None = refl
place_size v (Some note) = refl

place_units : (v : Option ℕ) (o : Option Note) → units_in (then_note (λ note. Some (placed v note)) o) ≡ units_in o
place_units v None = refl
place_units v (Some note) = refl

place_defined : (v : Option ℕ) (o : Option Note) → defined_in (then_note (λ note. Some (placed v note)) o) ≡ defined_in o
place_defined v None = refl
place_defined v (Some note) = refl

pub same_placed : (v : Option ℕ) (known after : List ℕ → Option Note) (n : List ℕ) → after ≡ put_at v known n → SameNotes known after
same_placed v known after n is =
    record {
      sizes = λ m. ap (λ (f : List ℕ → Option Note). size_in (f m)) is ∙ kept_by size_in place_size v known n m;
      counts = λ m. ap (λ (f : List ℕ → Option Note). units_in (f m)) is ∙ kept_by units_in place_units v known n m;
      defined = λ m. ap (λ (f : List ℕ → Option Note). defined_in (f m)) is ∙ kept_by defined_in place_defined v known n m;
    }

pub same_then : {f g h : List ℕ → Option Note} → SameNotes f g → SameNotes g h → SameNotes f h
same_then p q =
    record {
      sizes = λ n. q.sizes n ∙ p.sizes n;
      counts = λ n. q.counts n ∙ p.counts n;
      defined = λ n. q.defined n ∙ p.defined n;
    }

pub same_knows : {f g : List ℕ → Option Note} {texts : List (List ℕ)} → SameNotes f g → Knows f texts → Knows g texts
same_knows p k =
    record {
      sizes = λ n. p.sizes n ∙ k.sizes n;
      counts = λ n. p.counts n ∙ k.counts n;
      defined = λ n. p.defined n ∙ k.defined n;
    }

first_placed : (v : Option ℕ) (o : Option Note) → 0 < size_in o → first_in (then_note (λ note. Some (placed v note)) o) ≡ v
first_placed v None lt = absurd (not-suc-le-zero lt)
first_placed v (Some note) lt = refl

-- ---- one block more

module _ (units : Units) (es : List Entry) (known after : List ℕ → Option Note) (l l' : UnitList) (e : Entry) (owner : Owner) (len : ℕ)
    (fits : Fits units es e owner (known e.name)) (laid : Laid units es known l) where
  pub lay_new : first_in (known e.name) ≡ None → len ≡ suc e.slots → after ≡ put_at (variable_at l.variables) known e.name
      → (length l.blocks.items < 256 → l.variables ≤ 256 → Pushed len owner l l') → Laid units (lay_entry es e) after l'
  lay_new nowhere length_is is push =
      subst (λ (fs : List Entry). Laid units fs after l') (sym now_laid)
      (record {
        few = room;
        total = pushed.variables ∙ omega (arith, laid.total, length_is, wider);
        lengths = pushed.blocks ∙ ap (λ (ls : List ℕ). ls ++ len ∷ []) laid.lengths ∙ ap (λ (x : ℕ). blocks es ++ x ∷ []) length_is ∙ sym (blocks_push es e);
        owned = ap (map (owned_name units)) pushed.owners ∙ map-append (owned_name units) (owners_in l) (owner ∷ [])
            ∙ ap (λ (ns : List (List ℕ)). ns ++ owned_name units owner ∷ []) laid.owned ∙ ap (λ (n : List ℕ). map name_in_entry es ++ n ∷ []) fits.read
            ∙ sym (map-append name_in_entry es (e ∷ []));
        firsts = λ n. ap (λ (f : List ℕ → Option Note). first_in (f n)) is ∙ there n (bytes_eq e.name n) refl ∙ sym (laid_push es e n new);
      })
    where
      new : size_of es e.name ≡ 0
      new = unlaid es e.name (sym (laid.firsts e.name) ∙ nowhere)

      now_laid : lay_entry es e ≡ es ++ e ∷ []
      now_laid = cond-true _ _ _ (eq-eqb (size_of es e.name) 0 new)

      room : variables (blocks (es ++ e ∷ [])) ≤ 256
      room = subst (λ (fs : List Entry). variables (blocks fs) ≤ 256) now_laid fits.room

      wider : variables (blocks (es ++ e ∷ [])) ≡ variables (blocks es) + (suc e.slots + 0)
      wider = (behind es (e ∷ [])).all

      pushed : Pushed len owner l l'
      pushed = push (omega (arith, ap length laid.lengths, few_blocks es, wider, room)) (omega (arith, laid.total, laid.few))

      number : variable_at l.variables ≡ Some (variables (blocks es))
      number = cond-false _ _ _ (ne_eqb l.variables 256 (λ e. omega (arith, laid.total, wider, room, e))) ∙ ap Some laid.total

      there : (n : List ℕ) (b : Bool) → bytes_eq e.name n ≡ b
          → first_in (cond b (then_note (λ note. Some (placed (variable_at l.variables) note)) (known e.name)) (known n)) ≡ cond b (Some (variables (blocks es))) (laid_first es n)
      there n true same = first_placed (variable_at l.variables) (known e.name) (omega (arith, fits.size)) ∙ number
      there n false other = laid.firsts n

  pub lay_old : (first_in (known e.name) ≡ None → ⊥) → Laid units (lay_entry es e) known l
  lay_old somewhere =
      let some = laid_some es e.name (λ h. somewhere (laid.firsts e.name ∙ h)) in
      subst (λ (fs : List Entry). Laid units fs known l) (sym (cond-false _ _ _ (ne_eqb (size_of es e.name) 0 (λ z. omega arith)))) laid

-- ---- nothing is laid out

unplaced : (o : Option Note) → first_in (then_note (λ note. Some (placed None note)) o) ≡ None
unplaced None = refl
unplaced (Some note) = refl

module _ (known after : List ℕ → Option Note) (is : (n : List ℕ) → after n ≡ then_note (λ note. Some (placed None note)) (known n)) where
  pub same_unplaced : SameNotes known after
  same_unplaced =
      record {
        sizes = λ n. ap size_in (is n) ∙ place_size None (known n);
        counts = λ n. ap units_in (is n) ∙ place_units None (known n);
        defined = λ n. ap defined_in (is n) ∙ place_defined None (known n);
      }

  pub laid_none : (units : Units) (l : UnitList) → (list_in l).blocks ≡ [] → l.variables ≡ 0 → Laid units [] after l
  laid_none units l no_blocks no_variables =
      record {
        few = omega arith;
        total = no_variables;
        lengths = no_blocks;
        owned = ap (λ (bs : List ℕ). map (owned_name units) (take (length bs) l.owners)) no_blocks;
        firsts = λ n. ap first_in (is n) ∙ unplaced (known n);
      }
