-- The table of names with a text more: its names are known, or they have too many variables.
use Rattle.std.proofs.Common.{◌≡◌, ℕ, suc, ◌+◌, ◌<◌, ◌≤◌, Bool, true, false, cond, ◌||◌, ltb, List, [], ◌∷◌, map, length, get_or, set, Some, None, Option, sym, refl, ap, ◌∙◌, subst, arith}
use Rattle.std.specs.List.{flat_map, AllByRecursion}
use Rattle.std.specs.Str.{bytes_eq}
use Rattle.std.proofs.lemmas.Bool.{lt-ltb, le-ltb, ltb-true, ltb-false, cond-true, cond-false, false≢true}
use Rattle.constraints.specs.Constraint.{variables}
use Rattle.declarations.specs.Declarations.{Entry, size_of, Mention, declares, uses, calls, entry, kept, mentions_in, declared_in, declarations_in, fault_in}
use Rattle.declarations.proofs.Kept.{all_declarations}
use Rattle.names.specs.declared.record.Note.{Note}
use Rattle.names.specs.declared.table.NameTable.{NameTable}
use Rattle.names.specs.Notes.{weight, width, listed, Once as OnceListed, sum_over}
use Rattle.names.specs.Held.{notes, variables_of}
use Rattle.names.proofs.Held.{variables_over}
use Rattle.books.specs.Members.{any_of}
use Rattle.books.specs.Tables.{Once, blocks}
use Rattle.books.specs.Books.{Units, standing, table, declaring, defining, defines, defines_at, declares_name, Book}
use Rattle.books.specs.Loads.{clash, too_many_variables}
use Rattle.books.specs.Counts.{fresh, Short, OneMore, Grown}
use Rattle.books.proofs.Tables.{bytes_same}
use Rattle.books.proofs.Sizes.{other_name}
use Rattle.books.proofs.Lists.{table_once}
use Rattle.books.proofs.Declared.{declared_once}
use Rattle.books.proofs.Legal.{names_are_short}
use Rattle.books.proofs.Loads.{load_adds}
use Rattle.books.proofs.Counts.{load_grows}
use Rattle.standing.specs.Knowledge.{size_in, Knows}
use Rattle.standing.specs.Passes.{known_in, enter_all, fit_all}
use Rattle.standing.proofs.Entering.{At, entered, Outcome, all_fit, too_many, outcome}

-- ---- the variables that the table counts are those of the blocks

name_in_entry : Entry → List ℕ
name_in_entry e = e.name

listed_size : (es : List Entry) (n : List ℕ) → listed (map name_in_entry es) n ≡ ltb 0 (size_of es n)
unfolding name_in_entry
listed_size [] n = refl
listed_size (e ∷ es) n = go (bytes_eq e.name n) (listed_size es n)
  where
    go : (b : Bool) → listed (map name_in_entry es) n ≡ ltb 0 (size_of es n) → cond b true (listed (map name_in_entry es) n) ≡ ltb 0 (cond b (suc e.slots) (size_of es n))
    go true rest = sym (lt-ltb 0 (suc e.slots) (omega arith))
    go false rest = rest

names_once : (es : List Entry) → Once es → OnceListed (map name_in_entry es)
unfolding name_in_entry
names_once [] once = tt
names_once (e ∷ es) (new, once) = (listed_size es e.name ∙ le-ltb 0 (size_of es e.name) (omega arith), names_once es once)

sum_sizes : (f : List ℕ → ℕ) (es : List Entry) → Once es → ((n : List ℕ) → 0 < size_of es n → f n ≡ size_of es n) → sum_over f (map name_in_entry es) ≡ variables (blocks es)
unfolding name_in_entry
sum_sizes f [] once is = refl
sum_sizes f (e ∷ es) (new, once) is =
    let own : size_of (e ∷ es) e.name ≡ suc e.slots = cond-true _ _ _ (bytes_same e.name) in
    let here = is e.name (omega (arith, own)) in
    let rest = sum_sizes f es once (λ n lt.
    let other = cond-false (bytes_eq e.name n) (suc e.slots) (size_of es n) (other_name e es n new lt) in
    is n (omega (arith, other)) ∙ other) in
    omega (arith, here, own, rest)

wide : (o : Option Note) → weight width o ≡ size_in o
wide None = refl
wide (Some note) = omega arith

no_note : (o : Option Note) → size_in o ≡ 0 → o ≡ None
no_note None e = refl
no_note (Some note) e = absurd (omega arith)

pub counted_variables : (t : NameTable) (texts : List (List ℕ)) → Knows (notes t) texts → variables_of t ≡ variables (blocks (table texts))
counted_variables t texts knows =
    let es = table texts in
    variables_over t (map name_in_entry es)
    (record {
      once = names_once es (table_once texts);
      all = λ n e. no_note (notes t n) (knows.sizes n ∙ (let z = ltb-false 0 (size_of es n) (sym (listed_size es n) ∙ e) in omega arith));
    })
    ∙ sum_sizes (λ n. weight width (notes t n)) es (table_once texts) (λ n lt. wide (notes t n) ∙ knows.sizes n)

-- ---- the texts that declare a name are no more than the units

pub few_declare : (units : Units) (n : List ℕ) → declaring (standing units) n ≤ length units
few_declare [] n = omega arith
few_declare (None ∷ us) n = let h = few_declare us n in omega arith
few_declare (Some t ∷ us) n = go (declares_name t n) (few_declare us n)
  where
    go : (b : Bool) → declaring (standing us) n ≤ length us → cond b 1 0 + declaring (standing us) n ≤ length {A = Option (List ℕ)} (Some t ∷ us)
    go true h = omega arith
    go false h = omega arith

-- ---- definitions by declarations

any_kept : (n : List ℕ) (ms : List Mention) → any_of (defines_at n) (flat_map kept ms) ≡ any_of (defines_at n) ms
any_kept n [] = refl
any_kept n (declares e m k ∷ ms) = ap (λ (b : Bool). defines_at n (declares e m k) || b) (any_kept n ms)
any_kept n (uses p ∷ ms) = any_kept n ms
any_kept n (calls f k ∷ ms) = any_kept n ms

pub defined_by : (text n : List ℕ) → any_of (defines_at n) (declarations_in text) ≡ defines text n
unfolding defines
defined_by text n = any_kept n (mentions_in text)

one_more_some : (a : ℕ) (b : Bool) → ltb 0 (a + cond b 1 0) ≡ (ltb 0 a || b)
one_more_some a true = go (ltb 0 a) (lt-ltb 0 (a + 1) (omega arith))
  where
    go : (c : Bool) → ltb 0 (a + 1) ≡ true → ltb 0 (a + 1) ≡ (c || true)
    go true e = e
    go false e = e
one_more_some a false = go (ltb 0 a) refl
  where
    go : (c : Bool) → ltb 0 a ≡ c → ltb 0 (a + 0) ≡ (c || false)
    go true e = lt-ltb 0 (a + 0) (let h = ltb-true 0 a e in omega arith)
    go false e = le-ltb 0 (a + 0) (let h = ltb-false 0 a e in omega arith)

-- ---- a load

data Loaded (t : NameTable) (text : List ℕ) (many : List (List ℕ)) : Bool → Type 0 where
  known_all : Knows (enter_all (known_in t) (declarations_in text)).known many → too_many_variables many ≡ false → Loaded t text many true
  over : too_many_variables many ≡ true → Loaded t text many false

module _ (units : Units) (u : ℕ) (text : List ℕ) (t : NameTable) (inside : u < length units) (few : length units ≤ 8) (free : get_or units u None ≡ None)
    (book : Book (standing units)) (knows : Knows (notes t) (standing units)) (faultless : fault_in text ≡ None) (clear : clash (standing units) text ≡ None) where
  entries : declared_in text ≡ flat_map entry (declarations_in text)
  entries = (all_declarations text).entries

  grown : Grown (standing units) (standing (set units u (Some text))) text
  grown = load_grows units u text inside free book faultless clear

  more : OneMore (standing units) (standing (set units u (Some text))) text
  more = load_adds units u text inside free

  once : Once (flat_map entry (declarations_in text))
  once = subst Once entries (declared_once text faultless)

  load_knows : fit_all (known_in t) (declarations_in text) ≡ true → Knows (enter_all (known_in t) (declarations_in text)).known (standing (set units u (Some text)))
  load_knows fits =
      record {
        sizes = λ n. (at n).size ∙ ap (λ (x : ℕ). cond (ltb 0 x) x (size_of (flat_map entry (declarations_in text)) n)) (knows.sizes n)
            ∙ ap (λ (es : List Entry). cond (ltb 0 (size_of (table (standing units)) n)) (size_of (table (standing units)) n) (size_of es n)) (sym entries) ∙ sym (grown.sizes n);
        counts = λ n. (at n).units ∙ ap (λ (x : ℕ). x + cond (ltb 0 (size_of (flat_map entry (declarations_in text)) n)) 1 0) (knows.counts n)
            ∙ ap (λ (es : List Entry). declaring (standing units) n + cond (ltb 0 (size_of es n)) 1 0) (sym entries) ∙ sym (more.declared n);
        defined = λ n. (at n).defined ∙ ap (λ (b : Bool). b || any_of (defines_at n) (declarations_in text)) (knows.defined n)
            ∙ ap (λ (b : Bool). ltb 0 (defining (standing units) n) || b) (defined_by text n)
            ∙ sym (ap (ltb 0) (more.defined n) ∙ one_more_some (defining (standing units) n) (defines text n));
      }
    where
      at : (n : List ℕ) → At n (notes t n) (declarations_in text) ((enter_all (known_in t) (declarations_in text)).known n)
      at n = entered n (known_in t) (declarations_in text) once (λ lt. omega (arith, knows.counts n, few_declare units n)) fits

  loaded : Loaded t text (standing (set units u (Some text))) (fit_all (known_in t) (declarations_in text))
  unfolding too_many_variables
  loaded = go (fit_all (known_in t) (declarations_in text)) refl
      (outcome (table (standing units)) (known_in t) (declarations_in text) once (subst (AllByRecursion Short) entries (names_are_short text)) (λ n lt. knows.sizes n) (omega (arith, book.few, counted)))
    where
      counted : variables_of t ≡ variables (blocks (table (standing units)))
      counted = counted_variables t (standing units) knows

      total : variables (blocks (table (standing (set units u (Some text))))) ≡ variables_of t + fresh (table (standing units)) (flat_map entry (declarations_in text))
      total = grown.variable_count ∙ ap (λ (es : List Entry). variables (blocks (table (standing units))) + fresh (table (standing units)) es) entries
          ∙ ap (λ (v : ℕ). v + fresh (table (standing units)) (flat_map entry (declarations_in text))) (sym counted)

      go : (b : Bool) → fit_all (known_in t) (declarations_in text) ≡ b → Outcome (known_in t) (table (standing units)) (declarations_in text) b → Loaded t text (standing (set units u (Some text))) b
      go true fits (all_fit sum within) = known_all (load_knows fits) (le-ltb 256 _ (omega (arith, total)))
      go false refused (too_many more_than) = over (lt-ltb 256 _ (omega (arith, total)))

  pub load_known : fit_all (known_in t) (declarations_in text) ≡ true
      → Knows (enter_all (known_in t) (declarations_in text)).known (standing (set units u (Some text))) × (too_many_variables (standing (set units u (Some text))) ≡ false)
  load_known fits = go (fit_all (known_in t) (declarations_in text)) fits loaded
    where
      go : (b : Bool) → b ≡ true → Loaded t text (standing (set units u (Some text))) b
          → Knows (enter_all (known_in t) (declarations_in text)).known (standing (set units u (Some text))) × (too_many_variables (standing (set units u (Some text))) ≡ false)
      go true e (known_all k f) = (k, f)
      go false e l = absurd (false≢true e)

  pub load_over : fit_all (known_in t) (declarations_in text) ≡ false → too_many_variables (standing (set units u (Some text))) ≡ true
  load_over refused = go (fit_all (known_in t) (declarations_in text)) refused loaded
    where
      go : (b : Bool) → b ≡ false → Loaded t text (standing (set units u (Some text))) b → too_many_variables (standing (set units u (Some text))) ≡ true
      go true e l = absurd (false≢true (sym e))
      go false e (over f) = f
