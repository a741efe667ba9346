-- What entering the declarations of a text leaves in the table of names, name by name.
use Rattle.std.proofs.Common.{◌≡◌, ℕ, suc, ◌+◌, ◌<◌, ◌≤◌, Bool, true, false, cond, not, ◌&&◌, ◌||◌, eqb, ltb, leb, List, [], ◌∷◌, length, is_ok, Some, None, Ok, Err, Option, sym, refl, ap, ◌∙◌, arith}
use Rattle.std.specs.List.{flat_map, AllByRecursion}
use Rattle.std.specs.Str.{bytes_eq}
use Rattle.std.proofs.lemmas.Bool.{and_parts, and_from, le-leb, leb-true, leb-false, ltb-false, lt-ltb, le-ltb, ne_eqb, eq-eqb, not_from_false, false≢true, cond-true, cond-false}
use Rattle.lexemes.specs.Terminals.{Name}
use Rattle.grammar.specs.declared.item.Linkage.{Linkage}
use Rattle.declarations.specs.Declarations.{Entry, size_of, Mention, declares, uses, calls, entry}
use Rattle.names.specs.declared.record.Note.{Note}
use Rattle.names.specs.declared.table.TableFull.{TableFull}
use Rattle.names.specs.Notes.{raised, fresh_note}
use Rattle.names.specs.Tables.{enters, mention_reply, after_mention, mention_adds}
use Rattle.books.specs.Members.{any_of}
use Rattle.books.specs.Tables.{Once}
use Rattle.books.specs.Books.{is_defined, defines_at}
use Rattle.books.specs.Counts.{fresh, Short}
use Rattle.books.proofs.Tables.{same_bytes, bytes_same}
use Rattle.books.proofs.Sizes.{other_name}
use Rattle.standing.specs.Knowledge.{size_in, units_in, defined_in}
use Rattle.standing.specs.Passes.{Known, enter_one, enter_all, fit_all}

-- the note that a name has after a mention that fits
abbrev mentioned : Option Note → ℕ → Bool → Note
mentioned None k d = fresh_note k d
mentioned (Some note) k d = raised note d

ok_cond : (b : Bool) → is_ok {T = Unit {0}} {E = TableFull} (cond b (Ok tt) (Err (record {}))) ≡ b
ok_cond true = refl
ok_cond false = refl

after_fits : (o : Option Note) (v : ℕ) (n : List ℕ) (k : ℕ) (d : Bool) → is_ok (mention_reply o v n k) ≡ true → after_mention o v n k d ≡ Some (mentioned o k d)
after_fits (Some note) v n k d e = refl
after_fits None v n k d e = cond-true _ _ _ (sym (ok_cond (enters v n k)) ∙ e)

suc_eqb : (x : ℕ) → eqb (suc x) 0 ≡ false
suc_eqb x = ne_eqb (suc x) 0 (λ e. omega arith)

adds_fits : (o : Option Note) (v : ℕ) (n : List ℕ) (k : ℕ) → is_ok (mention_reply o v n k) ≡ true → mention_adds o v n k ≡ cond (eqb (size_in o) 0) (suc k) 0
adds_fits (Some note) v n k e = sym (cond-false _ _ _ (suc_eqb note.slots))
adds_fits None v n k e = cond-true _ _ _ (sym (ok_cond (enters v n k)) ∙ e) ∙ omega arith

known_size : (o : Option Note) (k rest : ℕ) (d : Bool) → cond (ltb 0 (size_in (Some (mentioned o k d)))) (size_in (Some (mentioned o k d))) rest ≡ cond (ltb 0 (size_in o)) (size_in o) (suc k)
known_size None k rest d = cond-true _ _ _ (lt-ltb 0 (suc k) (omega arith))
known_size (Some note) k rest d = let e = lt-ltb 0 (suc note.slots) (omega arith) in cond-true _ _ _ e ∙ sym (cond-true _ _ _ e)

known_units : (o : Option Note) (k : ℕ) (d : Bool) → units_in o < 255 → units_in (Some (mentioned o k d)) ≡ units_in o + 1
known_units None k d few = refl
known_units (Some note) k d few = omega arith

known_defined : (o : Option Note) (k : ℕ) (d : Bool) → defined_in (Some (mentioned o k d)) ≡ (defined_in o || d)
known_defined None k d = refl
known_defined (Some note) k d = refl

or_assoc : (a b c : Bool) → ((a || b) || c) ≡ (a || (b || c))
or_assoc true b c = refl
or_assoc false b c = refl

or_false : (a : Bool) → a ≡ (a || false)
or_false true = refl
or_false false = refl

and_true : (a : Bool) → a ≡ (a && true)
and_true true = refl
and_true false = refl

and_false : (a : Bool) → false ≡ (a && false)
and_false true = refl
and_false false = refl

if_none : (x : ℕ) → x ≡ cond (ltb 0 x) x 0
if_none x = go (ltb 0 x) refl
  where
    go : (b : Bool) → ltb 0 x ≡ b → x ≡ cond b x 0
    go true e = refl
    go false e = let z = ltb-false 0 x e in omega arith

-- ---- one name n

-- what declarations make of a name's note
pub record At (n : List ℕ) (before : Option Note) (ds : List Mention) (after : Option Note) : Type 0 where
  pub size : size_in after ≡ cond (ltb 0 (size_in before)) (size_in before) (size_of (flat_map entry ds) n)
  pub units : units_in after ≡ units_in before + cond (ltb 0 (size_of (flat_map entry ds) n)) 1 0
  pub defined : defined_in after ≡ (defined_in before || any_of (defines_at n) ds)

module _ (n : List ℕ) where
  enter_step : (t : Known) (e : Linkage) (m : Name) (k : ℕ) (ds : List Mention) (x : Option Note) → Once (flat_map entry (declares e m k ∷ ds))
      → (0 < size_of (flat_map entry (declares e m k ∷ ds)) n → units_in (t.known n) < 255)
      → is_ok (mention_reply (t.known m.bytes) t.variables m.bytes k) ≡ true
      → ((0 < size_of (flat_map entry ds) n → units_in ((enter_one t (declares e m k)).known n) < 255) → At n ((enter_one t (declares e m k)).known n) ds x)
      → At n (t.known n) (declares e m k ∷ ds) x
  enter_step t e m k ds x once few fits later =
      let (size, units, defined) = go (bytes_eq m.bytes n) refl few later in record { size = size; units = units; defined = defined }
    where
      new : Option Note
      new = after_mention (t.known m.bytes) t.variables m.bytes k (is_defined e)

      rest : ℕ
      rest = size_of (flat_map entry ds) n

      go : (b : Bool) → bytes_eq m.bytes n ≡ b
          → (0 < cond b (suc k) rest → units_in (t.known n) < 255)
          → ((0 < rest → units_in (cond b new (t.known n)) < 255) → At n (cond b new (t.known n)) ds x)
          → (size_in x ≡ cond (ltb 0 (size_in (t.known n))) (size_in (t.known n)) (cond b (suc k) rest))
          × (units_in x ≡ units_in (t.known n) + cond (ltb 0 (cond b (suc k) rest)) 1 0)
          × (defined_in x ≡ (defined_in (t.known n) || ((is_defined e && b) || any_of (defines_at n) ds)))
      go false is few' later' =
          let r = later' few' in
          (r.size, r.units, r.defined ∙ ap (λ (b : Bool). defined_in (t.known n) || (b || any_of (defines_at n) ds)) (and_false (is_defined e)))
      go true is few' later' =
          let same : m.bytes ≡ n = same_bytes m.bytes n is in
          let none : rest ≡ 0 = ap (size_of (flat_map entry ds)) (sym same) ∙ once.0 in
          let some : 0 < cond true (suc k) rest = omega arith in
          let before = few' some in
          let is_new : new ≡ Some (mentioned (t.known n) k (is_defined e)) =
          after_fits (t.known m.bytes) t.variables m.bytes k (is_defined e) fits ∙ ap (λ (l : List ℕ). Some (mentioned (t.known l) k (is_defined e))) same in
          let r = later' (λ lt. absurd (omega arith)) in
          let no : ltb 0 rest ≡ false = le-ltb 0 rest (omega arith) in
          let yes : ltb 0 (suc k) ≡ true = lt-ltb 0 (suc k) (omega arith) in (
            r.size ∙ ap (λ (o : Option Note). cond (ltb 0 (size_in o)) (size_in o) rest) is_new ∙ known_size (t.known n) k rest (is_defined e),
            omega (arith, r.units, ap units_in is_new, known_units (t.known n) k (is_defined e) before, ap (λ (b : Bool). cond {A = ℕ} b 1 0) no, ap (λ (b : Bool). cond {A = ℕ} b 1 0) yes),
            r.defined ∙ ap (λ (o : Option Note). defined_in o || any_of (defines_at n) ds) is_new ∙ ap (λ (b : Bool). b || any_of (defines_at n) ds) (known_defined (t.known n) k (is_defined e))
                ∙ or_assoc (defined_in (t.known n)) (is_defined e) (any_of (defines_at n) ds)
                ∙ ap (λ (b : Bool). defined_in (t.known n) || (b || any_of (defines_at n) ds)) (and_true (is_defined e)),
          )

  pub entered : (t : Known) (ds : List Mention) → Once (flat_map entry ds) → (0 < size_of (flat_map entry ds) n → units_in (t.known n) < 255) → fit_all t ds ≡ true
      → At n (t.known n) ds ((enter_all t ds).known n)
  entered t [] once few fits = record { size = if_none (size_in (t.known n)); units = omega arith; defined = or_false (defined_in (t.known n)) }
  entered t (uses p ∷ ds) once few fits = let r = entered t ds once few fits in record { size = r.size; units = r.units; defined = r.defined }
  entered t (calls f k ∷ ds) once few fits = let r = entered t ds once few fits in record { size = r.size; units = r.units; defined = r.defined }
  entered t (declares e m k ∷ ds) once few fits =
      let (one, all) = and_parts _ _ fits in
      enter_step t e m k ds _ once few one (λ less. entered (enter_one t (declares e m k)) ds once.1 less all)

-- ---- the variables of all blocks

abbrev pub Sized : (List ℕ → Option Note) → List Entry → List Entry → Type 0
Sized known es fs = (n : List ℕ) → 0 < size_of fs n → size_in (known n) ≡ size_of es n

-- a new name that is not entered has no room
no_room : (v k : ℕ) (n : List ℕ) → 0 < length n → length n ≤ 24 → enters v n k ≡ false → 256 < v + suc k
no_room v k n some few e = go (leb (v + k + 1) 256) refl
  where
    go : (b : Bool) → leb (v + k + 1) 256 ≡ b → 256 < v + suc k
    go false over = let h = leb-false (v + k + 1) 256 over in omega arith
    go true under =
        let yes : enters v n k ≡ true =
        and_from _ _ (not_from_false _ (ne_eqb (length n) 0 (λ z. omega arith))) (and_from _ _ (le-leb (length n) 24 few) under) in
        absurd (false≢true (sym e ∙ yes))

adds_within : (o : Option Note) (v : ℕ) (n : List ℕ) (k : ℕ) → is_ok (mention_reply o v n k) ≡ true → v ≤ 256 → v + mention_adds o v n k ≤ 256
adds_within (Some note) v n k e few = omega arith
adds_within None v n k e few =
    let yes = sym (ok_cond (enters v n k)) ∙ e in
    let room = leb-true (v + k + 1) 256 (and_parts (leb (length n) 24) _ (and_parts (not (eqb (length n) 0)) _ yes).1).1 in
    omega (arith, cond-true (enters v n k) (k + 1) 0 yes)

refused_new : (o : Option Note) (v : ℕ) (n : List ℕ) (k : ℕ) → 0 < length n → length n ≤ 24 → is_ok (mention_reply o v n k) ≡ false → (size_in o ≡ 0) × (256 < v + suc k)
refused_new (Some note) v n k some few e = absurd (false≢true (sym e))
refused_new None v n k some few e = (refl, no_room v k n some few (sym (ok_cond (enters v n k)) ∙ e))

-- all fit, or they would have more than 256 variables
pub data Outcome (t : Known) (es : List Entry) (ds : List Mention) : Bool → Type 0 where
  all_fit : (enter_all t ds).variables ≡ t.variables + fresh es (flat_map entry ds) → (enter_all t ds).variables ≤ 256 → Outcome t es ds true
  too_many : 256 < t.variables + fresh es (flat_map entry ds) → Outcome t es ds false

module _ (es : List Entry) where
  pub outcome : (t : Known) (ds : List Mention) → Once (flat_map entry ds) → AllByRecursion Short (flat_map entry ds) → Sized t.known es (flat_map entry ds) → t.variables ≤ 256
      → Outcome t es ds (fit_all t ds)
  outcome t [] once short sized few = all_fit (omega arith) few
  outcome t (uses p ∷ ds) once short sized few = again (outcome t ds once short sized few)
    where
      again : {b : Bool} → Outcome t es ds b → Outcome t es (uses p ∷ ds) b
      again (all_fit e h) = all_fit e h
      again (too_many h) = too_many h
  outcome t (calls f j ∷ ds) once short sized few = again (outcome t ds once short sized few)
    where
      again : {b : Bool} → Outcome t es ds b → Outcome t es (calls f j ∷ ds) b
      again (all_fit e h) = all_fit e h
      again (too_many h) = too_many h
  outcome t (declares e m k ∷ ds) once short sized few = go (is_ok (mention_reply o v m.bytes k)) refl (λ fits. outcome next ds once.1 short.1 later (adds_within o v m.bytes k fits few))
    where
      o : Option Note
      o = t.known m.bytes

      v : ℕ
      v = t.variables

      next : Known
      next = enter_one t (declares e m k)

      rest : List Entry
      rest = flat_map entry ds

      here : size_in o ≡ size_of es m.bytes
      here = sized m.bytes (omega (arith, cond-true (bytes_eq m.bytes m.bytes) (suc k) (size_of rest m.bytes) (bytes_same m.bytes)))

      added : is_ok (mention_reply o v m.bytes k) ≡ true → next.variables ≡ v + cond (eqb (size_of es m.bytes) 0) (suc k) 0
      added fits = ap (λ (x : ℕ). v + x) (adds_fits o v m.bytes k fits ∙ ap (λ (x : ℕ). cond {A = ℕ} (eqb x 0) (suc k) 0) here)

      later : Sized next.known es rest
      later n lt =
          let other = other_name (record { name = m.bytes; slots = k }) rest n once.0 lt in
          ap size_in (cond-false (bytes_eq m.bytes n) _ (t.known n) other) ∙ sized n (omega (arith, cond-false (bytes_eq m.bytes n) (suc k) (size_of rest n) other))

      step : (b : Bool) → is_ok (mention_reply o v m.bytes k) ≡ true → Outcome next es ds b → Outcome t es (declares e m k ∷ ds) b
      step true fits (all_fit sum h) = all_fit (omega (arith, added fits)) h
      step false fits (too_many h) = too_many (omega (arith, added fits))

      go : (b : Bool) → is_ok (mention_reply o v m.bytes k) ≡ b → (is_ok (mention_reply o v m.bytes k) ≡ true → Outcome next es ds (fit_all next ds))
          → Outcome t es (declares e m k ∷ ds) (b && fit_all next ds)
      go true fits after = step (fit_all next ds) fits (after fits)
      go false refused after =
          let (new, over) = refused_new o v m.bytes k short.0.0 short.0.1 refused in
          too_many (omega (arith, cond-true (eqb (size_of es m.bytes) 0) (suc k) 0 (eq-eqb _ _ (sym here ∙ new))))
