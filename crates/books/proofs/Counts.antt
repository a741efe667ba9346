-- The table and the counts as texts come and go.
use Rattle.std.proofs.Common.{◌≡◌, ℕ, zero, suc, ◌+◌, ◌<◌, Bool, true, false, cond, not, ◌&&◌, ◌||◌, eqb, ltb, ◌⊎◌, List, [], ◌∷◌, ◌++◌, get_or, set, Some, None, sym, refl, ap, ◌∙◌, inl, inr, not-suc-le-zero, arith}
use Rattle.std.specs.Str.{bytes_eq}
use Rattle.std.proofs.lemmas.Bool.{cond-true, cond-false, eq-eqb, ne_eqb, ltb-true, ltb-false, lt-ltb, and_parts, and_from, or_cases, or_left, or_right}
use Rattle.constraints.specs.Constraint.{variables}
use Rattle.declarations.specs.Declarations.{Entry, size_of, declares, declared_in, fault_in}
use Rattle.books.specs.Members.{◌∈◌, ◌⊆◌, any_of}
use Rattle.books.specs.Tables.{first_of, without, distinct, Once, blocks}
use Rattle.books.specs.Books.{Units, standing, table, is_defined, declares_name, defines, defining, Agreed}
use Rattle.books.specs.Loads.{clashes}
use Rattle.books.specs.Counts.{TableGrowsAtEnd, EntriesBehind, SameSizesSameVariables, SameTextsSameVariables, fresh, Grown, LoadGrowsTable, UnloadShrinksTable, DeclaredWhileCounted, ClashByCounts}
use Rattle.books.proofs.Options.{none_some, some_same}
use Rattle.books.proofs.Members.{any_elim, any_intro, count_some}
use Rattle.books.proofs.Tables.{same_bytes, bytes_same}
use Rattle.books.proofs.Sizes.{fewer_variables}
use Rattle.books.proofs.Faultless.{size_left, size_right}
use Rattle.books.proofs.Declared.{defines_declares, declared_once}
use Rattle.books.proofs.Lists.{size_from, size_some, table_size, table_once, text_grows, table_grows}
use Rattle.books.proofs.Loads.{fewer_then, still_stands, stood, load_agrees}
use Rattle.books.proofs.Commute.{stays, enters}

-- equal tests
tests_same : (a b : Bool) → (a ≡ true → b ≡ true) → (b ≡ true → a ≡ true) → a ≡ b
tests_same true b there back = sym (there refl)
tests_same false true there back = back refl
tests_same false false there back = refl

without_same : (n : List ℕ) (es : List Entry) (e : Entry) → bytes_eq e.name n ≡ true → without n (es ++ e ∷ []) ≡ without n es
without_same n [] e same = cond-true (bytes_eq e.name n) [] (e ∷ []) same
without_same n (f ∷ es) e same = go (bytes_eq f.name n) (without_same n es e same)
  where
    go : (b : Bool) → without n (es ++ e ∷ []) ≡ without n es → cond b (without n (es ++ e ∷ [])) (f ∷ without n (es ++ e ∷ [])) ≡ cond b (without n es) (f ∷ without n es)
    go true ih = ih
    go false ih = ap (λ xs. f ∷ xs) ih

without_other : (n : List ℕ) (es : List Entry) (e : Entry) → bytes_eq e.name n ≡ false → without n (es ++ e ∷ []) ≡ without n es ++ e ∷ []
without_other n [] e other = cond-false (bytes_eq e.name n) [] (e ∷ []) other
without_other n (f ∷ es) e other = go (bytes_eq f.name n) (without_other n es e other)
  where
    go : (b : Bool) → without n (es ++ e ∷ []) ≡ without n es ++ e ∷ []
        → cond b (without n (es ++ e ∷ [])) (f ∷ without n (es ++ e ∷ [])) ≡ cond b (without n es) (f ∷ without n es) ++ e ∷ []
    go true ih = ih
    go false ih = ap (λ xs. f ∷ xs) ih

same_back : (a b : List ℕ) → bytes_eq b a ≡ bytes_eq a b
same_back a b =
    tests_same (bytes_eq b a) (bytes_eq a b) (λ e. rw (same_bytes b a e) (bytes_same a)) (λ e. rw (same_bytes a b e) (bytes_same b))

pub at_end : TableGrowsAtEnd
at_end [] e = refl
at_end (f ∷ es) e = go (bytes_eq f.name e.name) refl (at_end es e)
  where
    grown : (b : Bool) → distinct (es ++ e ∷ []) ≡ cond b (distinct es ++ e ∷ []) (distinct es) → bytes_eq f.name e.name ≡ false
        → f ∷ without f.name (distinct (es ++ e ∷ [])) ≡ cond b (f ∷ (without f.name (distinct es) ++ e ∷ [])) (f ∷ without f.name (distinct es))
    grown true ih other = ap (λ xs. f ∷ without f.name xs) ih ∙ ap (λ xs. f ∷ xs) (without_other f.name (distinct es) e (same_back f.name e.name ∙ other))
    grown false ih other = ap (λ xs. f ∷ without f.name xs) ih

    there : (b : Bool) → distinct (es ++ e ∷ []) ≡ cond b (distinct es ++ e ∷ []) (distinct es) → bytes_eq f.name e.name ≡ true
        → f ∷ without f.name (distinct (es ++ e ∷ [])) ≡ f ∷ without f.name (distinct es)
    there true ih same = ap (λ xs. f ∷ without f.name xs) ih ∙ ap (λ xs. f ∷ xs) (without_same f.name (distinct es) e (same_back f.name e.name ∙ same))
    there false ih same = ap (λ xs. f ∷ without f.name xs) ih

    go : (b : Bool) → bytes_eq f.name e.name ≡ b → distinct (es ++ e ∷ []) ≡ cond (eqb (size_of es e.name) 0) (distinct es ++ e ∷ []) (distinct es)
        → f ∷ without f.name (distinct (es ++ e ∷ []))
        ≡ cond (eqb (cond b (suc f.slots) (size_of es e.name)) 0) (f ∷ (without f.name (distinct es) ++ e ∷ [])) (f ∷ without f.name (distinct es))
    go true same ih =
        there (eqb (size_of es e.name) 0) ih same
        ∙ sym (cond-false (eqb (suc f.slots) 0) (f ∷ (without f.name (distinct es) ++ e ∷ [])) (f ∷ without f.name (distinct es)) (ne_eqb (suc f.slots) 0 (λ z. omega arith)))
    go false other ih = grown (eqb (size_of es e.name) 0) ih other

behind_all : (es fs : List Entry) → variables (blocks (es ++ fs)) ≡ variables (blocks es) + variables (blocks fs)
behind_all [] fs = omega arith
behind_all (e ∷ es) fs = omega (arith, behind_all es fs)

first_left_step : (b : Bool) (s x f g : ℕ) → 0 < cond b (suc s) x → (0 < x → g ≡ f) → cond b 0 (suc s + g) ≡ cond b 0 (suc s + f)
first_left_step true s x f g lt ih = refl
first_left_step false s x f g lt ih = ap (λ k. suc s + k) (ih lt)

first_left : (es fs : List Entry) (n : List ℕ) → 0 < size_of es n → first_of (es ++ fs) n ≡ first_of es n
first_left [] fs n lt = absurd (not-suc-le-zero lt)
first_left (e ∷ es) fs n lt = first_left_step (bytes_eq e.name n) e.slots (size_of es n) (first_of es n) (first_of (es ++ fs) n) lt (first_left es fs n)

first_right_step : (b : Bool) (s x v f g : ℕ) → cond b (suc s) x ≡ 0 → (x ≡ 0 → g ≡ v + f) → cond b 0 (suc s + g) ≡ suc s + v + f
first_right_step true s x v f g e ih = absurd (omega arith)
first_right_step false s x v f g e ih = omega (arith, ih e)

first_right : (es fs : List Entry) (n : List ℕ) → size_of es n ≡ 0 → first_of (es ++ fs) n ≡ variables (blocks es) + first_of fs n
first_right [] fs n e = omega arith
first_right (h ∷ es) fs n e =
    first_right_step (bytes_eq h.name n) h.slots (size_of es n) (variables (blocks es)) (first_of fs n) (first_of (es ++ fs) n) e (first_right es fs n)

pub behind : EntriesBehind
behind es fs =
    record {
      all = behind_all es fs;
      old_size = size_left es fs;
      new_size = size_right es fs;
      old_first = first_left es fs;
      new_first = first_right es fs;
    }

pub same_sizes : SameSizesSameVariables
same_sizes es fs once too same =
    omega (arith, fewer_variables es fs once (λ n lt. sym (same n)), fewer_variables fs es too (λ n lt. same n))

pub same_variables : SameTextsSameVariables
same_variables ts us one other there back = omega (arith, fewer_then ts us other.agreed there, fewer_then us ts one.agreed back)

-- those entries whose names the table lacks
abbrev lacking : List Entry → List Entry → List Entry
lacking es [] = []
lacking es (f ∷ fs) = cond (eqb (size_of es f.name) 0) (f ∷ lacking es fs) (lacking es fs)

module _ (es : List Entry) where
  size_lacking : (fs : List Entry) (n : List ℕ) → size_of (lacking es fs) n ≡ cond (eqb (size_of es n) 0) (size_of fs n) 0
  size_lacking [] n = sym (empty (eqb (size_of es n) 0))
    where
      empty : (b : Bool) → ◌≡◌ {A = ℕ} (cond b 0 0) 0
      empty true = refl
      empty false = refl
  size_lacking (f ∷ fs) n = go (eqb (size_of es f.name) 0) refl (bytes_eq f.name n) refl (size_lacking fs n)
    where
      go : (b : Bool) → eqb (size_of es f.name) 0 ≡ b → (d : Bool) → bytes_eq f.name n ≡ d
          → size_of (lacking es fs) n ≡ cond (eqb (size_of es n) 0) (size_of fs n) 0
          → size_of (cond b (f ∷ lacking es fs) (lacking es fs)) n ≡ cond (eqb (size_of es n) 0) (cond d (suc f.slots) (size_of fs n)) 0
      go true new true same ih =
          let none : eqb (size_of es n) 0 ≡ true = rw (same_bytes f.name n same) at new in
          cond-true (bytes_eq f.name n) (suc f.slots) (size_of (lacking es fs) n) same ∙ sym (cond-true (eqb (size_of es n) 0) (suc f.slots) 0 none)
      go true new false other ih = cond-false (bytes_eq f.name n) (suc f.slots) (size_of (lacking es fs) n) other ∙ ih
      go false old true same ih =
          let some : eqb (size_of es n) 0 ≡ false = rw (same_bytes f.name n same) at old in
          ih ∙ cond-false (eqb (size_of es n) 0) (size_of fs n) 0 some ∙ sym (cond-false (eqb (size_of es n) 0) (suc f.slots) 0 some)
      go false old false other ih = ih

  lacking_old : (fs : List Entry) (n : List ℕ) → 0 < size_of es n → size_of (lacking es fs) n ≡ 0
  lacking_old fs n lt = size_lacking fs n ∙ cond-false (eqb (size_of es n) 0) (size_of fs n) 0 (ne_eqb (size_of es n) 0 (λ e. omega arith))

  lacking_new : (fs : List Entry) (n : List ℕ) → size_of es n ≡ 0 → size_of (lacking es fs) n ≡ size_of fs n
  lacking_new fs n e = size_lacking fs n ∙ cond-true (eqb (size_of es n) 0) (size_of fs n) 0 (eq-eqb (size_of es n) 0 e)

  lacking_none : (fs : List Entry) (n : List ℕ) → size_of fs n ≡ 0 → size_of (lacking es fs) n ≡ 0
  lacking_none fs n e = size_lacking fs n ∙ go (eqb (size_of es n) 0)
    where
      go : (b : Bool) → cond b (size_of fs n) 0 ≡ 0
      go true = e
      go false = refl

  once_lacking : (fs : List Entry) → Once fs → Once (lacking es fs)
  once_lacking [] once = tt
  once_lacking (f ∷ fs) (new, once) = go (eqb (size_of es f.name) 0) (once_lacking fs once)
    where
      go : (b : Bool) → Once (lacking es fs) → Once (cond b (f ∷ lacking es fs) (lacking es fs))
      go true ih = (lacking_none fs f.name new, ih)
      go false ih = ih

  variables_lacking : (fs : List Entry) → variables (blocks (lacking es fs)) ≡ fresh es fs
  variables_lacking [] = refl
  variables_lacking (f ∷ fs) = go (eqb (size_of es f.name) 0) (variables_lacking fs)
    where
      go : (b : Bool) → variables (blocks (lacking es fs)) ≡ fresh es fs
          → variables (blocks (cond b (f ∷ lacking es fs) (lacking es fs))) ≡ cond b (suc f.slots) 0 + fresh es fs
      go true ih = omega (arith, ih)
      go false ih = omega (arith, ih)

once_append : (es gs : List Entry) → Once es → Once gs → ((n : List ℕ) → 0 < size_of es n → size_of gs n ≡ 0) → Once (es ++ gs)
once_append [] gs once too apart = too
once_append (e ∷ es) gs (new, once) too apart = (
  size_right es gs e.name new ∙ apart e.name (omega (arith, own)),
  once_append es gs once too (λ n lt. apart n (still (bytes_eq e.name n) n lt)),
)
  where
    own : size_of (e ∷ es) e.name ≡ suc e.slots
    own = cond-true (bytes_eq e.name e.name) (suc e.slots) (size_of es e.name) (bytes_same e.name)

    still : (b : Bool) (n : List ℕ) → 0 < size_of es n → 0 < cond b (suc e.slots) (size_of es n)
    still true n lt = omega arith
    still false n lt = lt

-- texts with one more than those of few
record Joins (few many : List (List ℕ)) (text : List ℕ) : Type 0 where
  sub : few ⊆ many
  there : text ∈ many
  only : (t : List ℕ) → t ∈ many → (t ≡ text) ⊎ (t ∈ few)
  agreed : Agreed many
  faultless : fault_in text ≡ None

module _ (few many : List (List ℕ)) (text : List ℕ) (joins : Joins few many text) where
  old : (n : List ℕ) → 0 < size_of (table few) n → size_of (table many) n ≡ size_of (table few) n
  old n lt = table_grows few many joins.agreed joins.sub n lt

  new : (n : List ℕ) → size_of (table few) n ≡ 0 → size_of (table many) n ≡ size_of (declared_in text) n
  new n none = go (size_of (declared_in text) n) refl (size_of (table many) n) refl
    where
      -- a name of the whole is the text's or one of the few
      elsewhere : 0 < size_of (table many) n → (0 < size_of (declared_in text) n) ⊎ (0 < size_of (table few) n)
      elsewhere lt =
          let (t, t_in, is) = size_from many n (rw (table_size many n) at lt) in
          let some : 0 < size_of (declared_in t) n = omega (arith, table_size many n, is) in
          elim (joins.only t t_in) [
            | inl same ↦ inl (rw same at some)
            | inr h ↦ inr (rw (table_size few n) (size_some few t n h some))
          ]

      go : (k : ℕ) → size_of (declared_in text) n ≡ k → (l : ℕ) → size_of (table many) n ≡ l → size_of (table many) n ≡ size_of (declared_in text) n
      go (suc k) e l f = text_grows many joins.agreed text joins.there n (omega arith)
      go zero e zero f = f ∙ sym e
      go zero e (suc l) f = elim (elsewhere (omega arith)) [ inl some ↦ absurd (omega arith) | inr some ↦ absurd (omega arith) ]

  abbrev together : List Entry
  together = table few ++ lacking (table few) (declared_in text)

  same_together : (n : List ℕ) → size_of (table many) n ≡ size_of together n
  same_together n = go (size_of (table few) n) refl
    where
      go : (k : ℕ) → size_of (table few) n ≡ k → size_of (table many) n ≡ size_of together n
      go zero e =
          new n e ∙ sym (size_right (table few) (lacking (table few) (declared_in text)) n e ∙ lacking_new (table few) (declared_in text) n e)
      go (suc k) e = old n (omega arith) ∙ sym (size_left (table few) (lacking (table few) (declared_in text)) n (omega arith))

  table_grown : Grown few many text
  table_grown =
      record {
        sizes = λ n. go n (ltb 0 (size_of (table few) n)) refl;
        variable_count =
            same_sizes (table many) together (table_once many) whole same_together
            ∙ behind_all (table few) (lacking (table few) (declared_in text))
            ∙ ap (λ k. variables (blocks (table few)) + k) (variables_lacking (table few) (declared_in text));
      }
    where
      go : (n : List ℕ) (b : Bool) → ltb 0 (size_of (table few) n) ≡ b → size_of (table many) n ≡ cond b (size_of (table few) n) (size_of (declared_in text) n)
      go n true is = old n (ltb-true 0 (size_of (table few) n) is)
      go n false is = new n (omega (arith, ltb-false 0 (size_of (table few) n) is))

      whole : Once together
      whole =
          once_append (table few) (lacking (table few) (declared_in text)) (table_once few)
          (once_lacking (table few) (declared_in text) (declared_once text joins.faultless)) (lacking_old (table few) (declared_in text))

pub load_grows : LoadGrowsTable
load_grows units u text lt free book right clear =
    table_grown (standing units) (standing (set units u (Some text))) text (record {
      sub = stays units u text free;
      there = enters units u text lt;
      only = stood units u text;
      agreed = load_agrees units u text book.agreed clear;
      faultless = right;
    })

-- the text that is taken away stood, and the others still stand
pub stood_there : (units : Units) (u : ℕ) (text : List ℕ) → get_or units u None ≡ Some text → text ∈ standing units
stood_there [] u text e = absurd (none_some e)
stood_there (None ∷ units) zero text e = absurd (none_some e)
stood_there (Some s ∷ units) zero text e = inl (sym (some_same e))
stood_there (None ∷ units) (suc u) text e = stood_there units u text e
stood_there (Some s ∷ units) (suc u) text e = inr (stood_there units u text e)

others_stand : (units : Units) (u : ℕ) (text : List ℕ) → get_or units u None ≡ Some text → (t : List ℕ) → t ∈ standing units → (t ≡ text) ⊎ (t ∈ standing (set units u None))
others_stand [] u text e t h = absurd h
others_stand (None ∷ units) zero text e t h = absurd (none_some e)
others_stand (Some s ∷ units) zero text e t (inl same) = inl (same ∙ some_same e)
others_stand (Some s ∷ units) zero text e t (inr h) = inr h
others_stand (None ∷ units) (suc u) text e t h = others_stand units u text e t h
others_stand (Some s ∷ units) (suc u) text e t (inl same) = inr (inl same)
others_stand (Some s ∷ units) (suc u) text e t (inr h) = elim (others_stand units u text e t h) [ inl same ↦ inl same | inr k ↦ inr (inr k) ]

pub unload_shrinks : UnloadShrinksTable
unload_shrinks units u text stands book =
    table_grown (standing (set units u None)) (standing units) text (record {
      sub = still_stands units u;
      there = stood_there units u text stands;
      only = others_stand units u text stands;
      agreed = book.agreed;
      faultless = book.faultless text (stood_there units u text stands);
    })

pub declared_while : DeclaredWhileCounted
declared_while texts n =
    tests_same (ltb 0 (size_of (table texts) n)) (any_of (λ t. declares_name t n) texts)
    (λ e.
    let some : 0 < size_of (table texts) n = ltb-true 0 (size_of (table texts) n) e in
    let (t, t_in, is) = size_from texts n (rw (table_size texts n) at some) in
    any_intro (λ t. declares_name t n) t texts t_in (lt-ltb 0 (size_of (declared_in t) n) (omega (arith, table_size texts n, is))))
    (λ e.
    let (t, t_in, is) = any_elim (λ t. declares_name t n) texts e in
    lt-ltb 0 (size_of (table texts) n) (rw (table_size texts n) (size_some texts t n t_in (ltb-true 0 (size_of (declared_in t) n) is))))
    ∙ sym (count_some (λ t. declares_name t n) texts)

pub clash_by_counts : ClashByCounts
clash_by_counts texts book e name k =
    tests_same (any_of (clashes (declares e name k)) texts) ((ltb 0 size && not (eqb size (suc k))) || (is_defined e && ltb 0 (defining texts n))) there back
  where
    n : List ℕ
    n = name.bytes

    size : ℕ
    size = size_of (table texts) n

    there : any_of (clashes (declares e name k)) texts ≡ true → ((ltb 0 size && not (eqb size (suc k))) || (is_defined e && ltb 0 (defining texts n))) ≡ true
    there found =
        let (t, t_in, is) = any_elim (clashes (declares e name k)) texts found in
        let (declared, why) = and_parts (declares_name t n) (not (eqb (size_of (declared_in t) n) (suc k)) || (is_defined e && defines t n)) is in
        let some : 0 < size_of (declared_in t) n = ltb-true 0 (size_of (declared_in t) n) declared in
        let same : size ≡ size_of (declared_in t) n = text_grows texts book.agreed t t_in n some in
        elim (or_cases (not (eqb (size_of (declared_in t) n) (suc k))) (is_defined e && defines t n) why) [
          | inl differs ↦
              or_left (ltb 0 size && not (eqb size (suc k))) (is_defined e && ltb 0 (defining texts n))
              (and_from (ltb 0 size) (not (eqb size (suc k))) (lt-ltb 0 size (omega arith)) (ap (λ s. not (eqb s (suc k))) same ∙ differs))
          | inr both ↦
              let (here, defined) = and_parts (is_defined e) (defines t n) both in
              or_right (ltb 0 size && not (eqb size (suc k))) (is_defined e && ltb 0 (defining texts n))
              (and_from (is_defined e) (ltb 0 (defining texts n)) here (count_some (λ t. defines t n) texts ∙ any_intro (λ t. defines t n) t texts t_in defined))
        ]

    found_in : (t : List ℕ) → t ∈ texts → 0 < size_of (declared_in t) n → (not (eqb (size_of (declared_in t) n) (suc k)) || (is_defined e && defines t n)) ≡ true
        → any_of (clashes (declares e name k)) texts ≡ true
    found_in t t_in some why =
        any_intro (clashes (declares e name k)) t texts t_in (and_from (declares_name t n) _ (lt-ltb 0 (size_of (declared_in t) n) some) why)

    back : ((ltb 0 size && not (eqb size (suc k))) || (is_defined e && ltb 0 (defining texts n))) ≡ true → any_of (clashes (declares e name k)) texts ≡ true
    back why =
        elim (or_cases (ltb 0 size && not (eqb size (suc k))) (is_defined e && ltb 0 (defining texts n)) why) [
          | inl differs ↦
              let (some, other) = and_parts (ltb 0 size) (not (eqb size (suc k))) differs in
              let (t, t_in, is) = size_from texts n (rw (table_size texts n) at (ltb-true 0 size some)) in
              let same : size ≡ size_of (declared_in t) n = table_size texts n ∙ is in
              found_in t t_in (omega (arith, ltb-true 0 size some, same))
              (or_left (not (eqb (size_of (declared_in t) n) (suc k))) (is_defined e && defines t n) (ap (λ s. not (eqb s (suc k))) (sym same) ∙ other))
          | inr both ↦
              let (here, counted) = and_parts (is_defined e) (ltb 0 (defining texts n)) both in
              let (t, t_in, defined) = any_elim (λ t. defines t n) texts (sym (count_some (λ t. defines t n) texts) ∙ counted) in
              found_in t t_in (defines_declares t n defined)
              (or_right (not (eqb (size_of (declared_in t) n) (suc k))) (is_defined e && defines t n) (and_from (is_defined e) (defines t n) here defined))
        ]
