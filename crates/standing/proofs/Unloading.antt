-- The table of names with a text less.
use Rattle.std.proofs.Common.{◌≡◌, ℕ, suc, ◌+◌, ◌-◌, ◌≤◌, Bool, true, false, cond, not, ◌&&◌, ltb, List, [], ◌∷◌, get_or, set, Some, None, Option, sym, refl, ap, ◌∙◌, subst, arith}
use Rattle.std.specs.List.{flat_map}
use Rattle.std.proofs.lemmas.Bool.{lt-ltb, le-ltb, ltb-true, ltb-false, cond-true}
use Rattle.declarations.specs.Declarations.{Entry, size_of, entry, declared_in, declarations_in, fault_in}
use Rattle.declarations.proofs.Kept.{all_declarations}
use Rattle.names.specs.declared.record.Note.{Note}
use Rattle.names.specs.Notes.{standing as still_mentioned, then_note}
use Rattle.books.specs.Members.{any_of}
use Rattle.books.specs.Tables.{Once}
use Rattle.books.specs.Books.{Units, standing, table, declaring, defining, defines, defines_at, declares_name, Book}
use Rattle.books.specs.Counts.{OneMore, Grown}
use Rattle.books.proofs.Declared.{declared_once, defines_declares}
use Rattle.books.proofs.Loads.{unload_takes}
use Rattle.books.proofs.Counts.{unload_shrinks, declared_while}
use Rattle.standing.specs.Knowledge.{size_in, units_in, defined_in, Knows}
use Rattle.standing.specs.Passes.{forget_all}
use Rattle.standing.proofs.Forgetting.{Less, forgotten}
use Rattle.standing.proofs.Loading.{defined_by}

-- a note after a sweep, by how many units mention it
swept_size : (o : Option Note) → size_in (then_note still_mentioned o) ≡ cond (ltb 0 (units_in o)) (size_in o) 0
swept_size None = refl
swept_size (Some note) = go (ltb 0 note.units)
  where
    go : (b : Bool) → size_in (cond b (Some note) None) ≡ cond b (suc note.slots) 0
    go true = refl
    go false = refl

swept_units : (o : Option Note) → units_in (then_note still_mentioned o) ≡ units_in o
swept_units None = refl
swept_units (Some note) = go (ltb 0 note.units) refl
  where
    go : (b : Bool) → ltb 0 note.units ≡ b → units_in (cond b (Some note) None) ≡ note.units
    go true e = refl
    go false e = let z = ltb-false 0 note.units e in omega arith

swept_defined : (o : Option Note) → defined_in (then_note still_mentioned o) ≡ cond (ltb 0 (units_in o)) (defined_in o) false
swept_defined None = refl
swept_defined (Some note) = go (ltb 0 note.units)
  where
    go : (b : Bool) → defined_in (cond b (Some note) None) ≡ cond b note.defined false
    go true = refl
    go false = refl

-- a text that defines a name declares it
fewer_define : (texts : List (List ℕ)) (n : List ℕ) → defining texts n ≤ declaring texts n
fewer_define [] n = omega arith
fewer_define (t ∷ texts) n = go (defines t n) refl (fewer_define texts n)
  where
    go : (b : Bool) → defines t n ≡ b → defining texts n ≤ declaring texts n → cond b 1 0 + defining texts n ≤ cond (declares_name t n) 1 0 + declaring texts n
    go true e h = let one = cond-true {A = ℕ} (declares_name t n) 1 0 (lt-ltb 0 (size_of (declared_in t) n) (defines_declares t n e)) in omega (arith, one)
    go false e h = omega arith

taken : (a : ℕ) (b : Bool) → a + cond b 1 0 - cond b 1 0 ≡ a
taken a true = omega arith
taken a false = omega arith

-- where at most one text defines a name, the rest do exactly if this one does not
left_defined : (a : ℕ) (b : Bool) → a + cond b 1 0 ≤ 1 → (ltb 0 (a + cond b 1 0) && not b) ≡ ltb 0 a
left_defined a true few = go (ltb 0 (a + 1)) (le-ltb 0 a (omega arith))
  where
    go : (c : Bool) → ltb 0 a ≡ false → (c && not true) ≡ ltb 0 a
    go true e = sym e
    go false e = sym e
left_defined a false few = go (ltb 0 a) refl
  where
    go : (c : Bool) → ltb 0 a ≡ c → (ltb 0 (a + 0) && not false) ≡ c
    go true e = ap (λ (b : Bool). b && true) (lt-ltb 0 (a + 0) (let h = ltb-true 0 a e in omega arith))
    go false e = ap (λ (b : Bool). b && true) (le-ltb 0 (a + 0) (let h = ltb-false 0 a e in omega arith))

module _ (units : Units) (u : ℕ) (text : List ℕ) (known : List ℕ → Option Note) (stands : get_or units u None ≡ Some text)
    (book : Book (standing units)) (knows : Knows known (standing units)) (faultless : fault_in text ≡ None) where
  less : (n : List ℕ) → Less n (known n) (declarations_in text) (forget_all known (declarations_in text) n)
  less n = forgotten n known (declarations_in text) (subst Once (all_declarations text).entries (declared_once text faultless))

  fewer : OneMore (standing (set units u None)) (standing units) text
  fewer = unload_takes units u text stands

  shrunk : Grown (standing (set units u None)) (standing units) text
  shrunk = unload_shrinks units u text stands book

  left_units : (n : List ℕ) → units_in (forget_all known (declarations_in text) n) ≡ declaring (standing (set units u None)) n
  left_units n =
      (less n).units ∙ ap (λ (x : ℕ). x - cond (ltb 0 (size_of (flat_map entry (declarations_in text)) n)) 1 0) (knows.counts n ∙ fewer.declared n)
      ∙ ap (λ (es : List Entry). declaring (standing (set units u None)) n + cond (declares_name text n) 1 0 - cond (ltb 0 (size_of es n)) 1 0) (sym (all_declarations text).entries)
      ∙ taken (declaring (standing (set units u None)) n) (declares_name text n)

  left_define : (n : List ℕ) → defined_in (forget_all known (declarations_in text) n) ≡ ltb 0 (defining (standing (set units u None)) n)
  left_define n =
      (less n).defined ∙ ap (λ (b : Bool). b && not (any_of (defines_at n) (declarations_in text))) (knows.defined n ∙ ap (ltb 0) (fewer.defined n))
      ∙ ap (λ (b : Bool). ltb 0 (defining (standing (set units u None)) n + cond (defines text n) 1 0) && not b) (defined_by text n)
      ∙ left_defined (defining (standing (set units u None)) n) (defines text n) (omega (arith, book.defined_once n, fewer.defined n))

  pub unloaded : (after : List ℕ → Option Note) → ((n : List ℕ) → after n ≡ then_note still_mentioned (forget_all known (declarations_in text) n)) → Knows after (standing (set units u None))
  unloaded after swept =
      record {
        sizes = λ n. ap size_in (swept n) ∙ swept_size (forget_all known (declarations_in text) n) ∙ by_size n;
        counts = λ n. ap units_in (swept n) ∙ swept_units (forget_all known (declarations_in text) n) ∙ left_units n;
        defined = λ n. ap defined_in (swept n) ∙ swept_defined (forget_all known (declarations_in text) n) ∙ by_defined n;
      }
    where
      by_size : (n : List ℕ) → cond (ltb 0 (units_in (forget_all known (declarations_in text) n))) (size_in (forget_all known (declarations_in text) n)) 0 ≡ size_of (table (standing (set units u None))) n
      by_size n = ap (λ (x : ℕ). cond (ltb 0 x) (size_in (forget_all known (declarations_in text) n)) 0) (left_units n) ∙ go (ltb 0 (declaring (standing (set units u None)) n)) refl
        where
          while : ltb 0 (size_of (table (standing (set units u None))) n) ≡ ltb 0 (declaring (standing (set units u None)) n)
          while = declared_while (standing (set units u None)) n

          go : (b : Bool) → ltb 0 (declaring (standing (set units u None)) n) ≡ b
              → cond b (size_in (forget_all known (declarations_in text) n)) 0 ≡ size_of (table (standing (set units u None))) n
          go false e = let z = ltb-false 0 (size_of (table (standing (set units u None))) n) (while ∙ e) in omega arith
          go true e = (less n).size ∙ knows.sizes n ∙ shrunk.sizes n ∙ cond-true _ _ _ (while ∙ e)

      by_defined : (n : List ℕ) → cond (ltb 0 (units_in (forget_all known (declarations_in text) n))) (defined_in (forget_all known (declarations_in text) n)) false ≡ ltb 0 (defining (standing (set units u None)) n)
      by_defined n = ap (λ (x : ℕ). cond (ltb 0 x) (defined_in (forget_all known (declarations_in text) n)) false) (left_units n) ∙ go (ltb 0 (declaring (standing (set units u None)) n)) refl
        where
          go : (b : Bool) → ltb 0 (declaring (standing (set units u None)) n) ≡ b
              → cond b (defined_in (forget_all known (declarations_in text) n)) false ≡ ltb 0 (defining (standing (set units u None)) n)
          go false e =
              let none = ltb-false 0 (declaring (standing (set units u None)) n) e in
              sym (le-ltb 0 _ (omega (arith, fewer_define (standing (set units u None)) n)))
          go true e = left_define n
