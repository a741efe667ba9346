-- A text with no declaration fault: its words are lawful over its own declarations.
use Rattle.std.proofs.Common.{◌≡◌, ℕ, suc, ◌+◌, ◌<◌, ◌≤◌, Bool, true, false, cond, ltb, List, [], ◌∷◌, ◌++◌, map, length, Some, None, refl, ◌∙◌, subst, not-suc-le-zero, arith}
use Rattle.std.specs.List.{flat_map, AllByRecursion}
use Rattle.std.specs.Str.{bytes_eq}
use Rattle.std.proofs.lemmas.List.{append_assoc}
use Rattle.std.proofs.ByRecursion.{All-append}
use Rattle.std.proofs.lemmas.Bool.{ltb-true, eqb-true, and_parts, cond-true}
use Rattle.lexemes.specs.Terminals.{Name}
use Rattle.grammar.specs.declared.item.Slot.{Slot}
use Rattle.grammar.specs.declared.item.Slot.TheVariants.{Bare, Result, Parameter}
use Rattle.grammar.specs.Grammar.{Place, Callee, direct, through, Value, address, copy, load, returned, Item, variable, function, assign, store, invoke, FewIn, Few, Legal}
use Rattle.grammar.specs.Parse.{Statement, item_of}
use Rattle.units.specs.Words.{Cell}
use Rattle.units.specs.Statements.{slot_number, cell, slot_of, address_word, copy_word, load_word, store_word, argument_words, result_words, value_words, words_of, pointer_of, value_pointers, pointers_of}
use Rattle.units.specs.Listing.{words_at, pointers_at}
use Rattle.declarations.specs.Declarations.{Entry, size_of, Mention, declares, uses, calls, mentions, call_mentions, value_mentions, entry, has_slot, right, fault_after, mentions_at}
use Rattle.books.specs.Tables.{Within}
use Rattle.books.proofs.Tables.{bytes_same}
use Rattle.books.proofs.Embedding.{Lawful}

size_left_step : (b : Bool) (x y z : ℕ) → 0 < cond b (suc x) y → (0 < y → z ≡ y) → cond b (suc x) z ≡ cond b (suc x) y
size_left_step true x y z lt ih = refl
size_left_step false x y z lt ih = ih lt

-- a name declared in the first part has that block in the whole
pub size_left : (es fs : List Entry) (n : List ℕ) → 0 < size_of es n → size_of (es ++ fs) n ≡ size_of es n
size_left [] fs n lt = absurd (not-suc-le-zero lt)
size_left (e ∷ es) fs n lt = size_left_step (bytes_eq e.name n) e.slots (size_of es n) (size_of (es ++ fs) n) lt (size_left es fs n)

size_right_step : (b : Bool) (x y z u : ℕ) → cond b (suc x) y ≡ 0 → (y ≡ 0 → z ≡ u) → cond b (suc x) z ≡ u
size_right_step true x y z u e ih = absurd (omega arith)
size_right_step false x y z u e ih = ih e

-- a name not declared in the first part has the block of the second
pub size_right : (es fs : List Entry) (n : List ℕ) → size_of es n ≡ 0 → size_of (es ++ fs) n ≡ size_of fs n
size_right [] fs n e = refl
size_right (h ∷ es) fs n e = size_right_step (bytes_eq h.name n) h.slots (size_of es n) (size_of (es ++ fs) n) (size_of fs n) e (size_right es fs n)

-- the name is right over all declarations es
abbrev pub Fits : List Entry → Mention → Type 0
Fits es (declares e n k) = size_of es n.bytes ≡ suc k
Fits es (uses p) = has_slot p.slot (size_of es p.base.bytes) ≡ true
Fits es (calls f k) = size_of es f.bytes ≡ k + 2

-- a slot that a block has
pub slot_in : (s : Slot) (size : ℕ) → has_slot s size ≡ true → slot_number s < size
slot_in Bare size e = ltb-true 0 size e
slot_in (Result at) size e = ltb-true 1 size e
slot_in (Parameter j) size e = ltb-true (1 + j) size (and_parts (ltb 0 j) (ltb (1 + j) size) e).1

fits_later : (es fs : List Entry) (m : Mention) → right es m ≡ true → Fits (es ++ (entry m ++ fs)) m
fits_later es fs (declares e n k) h =
    size_right es (record { name = n.bytes; slots = k } ∷ fs) n.bytes (eqb-true (size_of es n.bytes) 0 h)
    ∙ cond-true (bytes_eq n.bytes n.bytes) (suc k) (size_of fs n.bytes) (bytes_same n.bytes)
fits_later es fs (uses p) h =
    let lt : slot_number p.slot < size_of es p.base.bytes = slot_in p.slot (size_of es p.base.bytes) h in
    rw (size_left es fs p.base.bytes (omega arith)) h
fits_later es fs (calls f k) h =
    let e : size_of es f.bytes ≡ k + 2 = eqb-true (size_of es f.bytes) (k + 2) h in
    size_left es fs f.bytes (omega arith) ∙ e

fits_step : (es : List Entry) (m : Mention) (ms : List Mention) (b : Bool) (at : ℕ) → right es m ≡ b → cond b (fault_after (es ++ entry m) ms) (Some at) ≡ None
    → (fault_after (es ++ entry m) ms ≡ None → AllByRecursion (Fits ((es ++ entry m) ++ flat_map entry ms)) ms)
    → AllByRecursion (Fits (es ++ flat_map entry (m ∷ ms))) (m ∷ ms)
fits_step es m ms true at h e ih =
    (fits_later es (flat_map entry ms) m h, subst (λ fs. AllByRecursion (Fits fs) ms) (append_assoc es (entry m) (flat_map entry ms)) (ih e))
fits_step es m ms false at h e ih = let z : ◌≡◌ {A = ℕ} 0 1 = cc in absurd (omega arith)

fits_all : (es : List Entry) (ms : List Mention) → fault_after es ms ≡ None → AllByRecursion (Fits (es ++ flat_map entry ms)) ms
fits_all es [] e = tt
fits_all es (m ∷ ms) e = fits_step es m ms (right es m) _ refl e (fits_all (es ++ entry m) ms)

-- every name of a faultless text is right over the text's declarations
pub faultless_fits : (ms : List Mention) → fault_after [] ms ≡ None → AllByRecursion (Fits (flat_map entry ms)) ms
faultless_fits ms e = fits_all [] ms e

pub all_split : {X : Type 0} (P : X → Type 0) (xs ys : List X) → AllByRecursion P (xs ++ ys) → AllByRecursion P xs × AllByRecursion P ys
all_split P [] ys h = (tt, h)
all_split P (x ∷ xs) ys (p, h) = let (l, r) = all_split P xs ys h in ((p, l), r)

module _ (es : List Entry) where
  use_within : (p : Place) → Fits es (uses p) → Within es (cell p)
  use_within p h = slot_in p.slot (size_of es p.base.bytes) h

  lawful_address : (p : Cell) (a : Name) → Within es p → 0 < size_of es a.bytes → Lawful es (address_word p a)
  lawful_address p a l r =
      record { left_in = l; right_in = r; kind_in = omega arith; offset_in = omega arith; no_offset = λ _. refl; object_right = λ _. refl }

  lawful_copy : (p q : Cell) → Within es p → Within es q → Lawful es (copy_word p q)
  lawful_copy p q l r =
      record { left_in = l; right_in = r; kind_in = omega arith; offset_in = omega arith; no_offset = λ _. refl; object_right = λ e. absurd (omega arith) }

  lawful_load : (p q : Cell) (k : ℕ) → k < 8 → Within es p → Within es q → Lawful es (load_word p q k)
  lawful_load p q k small l r =
      record { left_in = l; right_in = r; kind_in = omega arith; offset_in = small; no_offset = λ e. absurd (omega arith); object_right = λ e. absurd (omega arith) }

  lawful_store : (p q : Cell) (k : ℕ) → k < 8 → Within es p → Within es q → Lawful es (store_word p k q)
  lawful_store p q k small l r =
      record { left_in = l; right_in = r; kind_in = omega arith; offset_in = small; no_offset = λ e. absurd (omega arith); object_right = λ e. absurd (omega arith) }

  passed_lawful : (f : Name) (k : ℕ) (given : List Place) → k + length given ≤ size_of es f.bytes → AllByRecursion (Fits es) (map uses given)
      → AllByRecursion (Lawful es) (argument_words (direct f) k given)
  passed_lawful f k [] room fits = tt
  passed_lawful f k (a ∷ given) room (h, fits) =
      (lawful_copy (slot_of f k) (cell a) (omega arith) (use_within a h), passed_lawful f (k + 1) given (omega arith) fits)

  through_lawful : (p : Place) (k : ℕ) (given : List Place) → Within es (cell p) → k + length given ≤ 8 → AllByRecursion (Fits es) (map uses given)
      → AllByRecursion (Lawful es) (argument_words (through p) k given)
  through_lawful p k [] p_in room fits = tt
  through_lawful p k (a ∷ given) p_in room (h, fits) =
      (lawful_store (cell p) (cell a) k (omega arith) p_in (use_within a h), through_lawful p (k + 1) given p_in (omega arith) fits)

  arguments_lawful : (callee : Callee) (given : List Place) → length given ≤ 6
      → AllByRecursion (Fits es) (call_mentions (record { callee = callee; arguments = given })) → AllByRecursion (Lawful es) (argument_words callee 2 given)
  arguments_lawful (direct f) given few (h, fits) = passed_lawful f 2 given (omega arith) fits
  arguments_lawful (through p) given few (h, fits) = through_lawful p 2 given (use_within p h) (omega arith) fits

  result_lawful : (r : Place) (callee : Callee) (given : List Place) → Within es (cell r)
      → AllByRecursion (Fits es) (call_mentions (record { callee = callee; arguments = given })) → AllByRecursion (Lawful es) (result_words (Some r) callee)
  result_lawful r (direct f) given r_in (h, fits) = (lawful_copy (cell r) (slot_of f 1) r_in (omega arith), tt)
  result_lawful r (through p) given r_in (h, fits) = (lawful_load (cell r) (cell p) 1 (omega arith) r_in (use_within p h), tt)

  value_lawful : (r : Place) (v : Value) → FewIn v → Within es (cell r) → AllByRecursion (Fits es) (value_mentions v) → AllByRecursion (Lawful es) (value_words r v)
  value_lawful r (address a) few r_in (h, fits) = (lawful_address (cell r) a r_in (ltb-true 0 (size_of es a.bytes) h), tt)
  value_lawful r (copy q) few r_in (h, fits) = (lawful_copy (cell r) (cell q) r_in (use_within q h), tt)
  value_lawful r (load q) few r_in (h, fits) = (lawful_load (cell r) (cell q) 0 (omega arith) r_in (use_within q h), tt)
  value_lawful r (returned c) few r_in fits =
      All-append (Lawful es) (argument_words c.callee 2 c.arguments) _ (arguments_lawful c.callee c.arguments few fits)
      (result_lawful r c.callee c.arguments r_in fits)

  item_lawful : (i : Item) → Few i → AllByRecursion (Fits es) (mentions i) → AllByRecursion (Lawful es) (words_of i)
  item_lawful (variable e n) few fits = tt
  item_lawful (function e n k) few fits = tt
  item_lawful (assign p v) few (h, fits) = value_lawful p v few (use_within p h) fits
  item_lawful (store p q) few (h, (k, fits)) = (lawful_store (cell p) (cell q) 0 (omega arith) (use_within p h) (use_within q k), tt)
  item_lawful (invoke c) few fits =
      All-append (Lawful es) (argument_words c.callee 2 c.arguments) [] (arguments_lawful c.callee c.arguments few fits) tt

  -- the words of statements whose names are right are lawful
  pub statements_lawful : (ss : List Statement) → Legal (map item_of ss) → AllByRecursion (Fits es) (flat_map mentions_at ss) → AllByRecursion (Lawful es) (flat_map words_at ss)
  statements_lawful [] legal fits = tt
  statements_lawful (s ∷ ss) (few, legal) fits =
      let (here, later) = all_split (Fits es) (mentions_at s) (flat_map mentions_at ss) fits in
      All-append (Lawful es) (words_at s) (flat_map words_at ss) (item_lawful s.item few here) (statements_lawful ss legal later)

  abbrev Inside : Place → Type 0
  Inside p = Within es (cell p)

  callee_inside : (callee : Callee) (given : List Place) → AllByRecursion (Fits es) (call_mentions (record { callee = callee; arguments = given }))
      → AllByRecursion Inside (pointer_of callee)
  callee_inside (direct f) given fits = tt
  callee_inside (through p) given (h, fits) = (use_within p h, tt)

  value_inside : (v : Value) → AllByRecursion (Fits es) (value_mentions v) → AllByRecursion Inside (value_pointers v)
  value_inside (address a) fits = tt
  value_inside (copy q) fits = tt
  value_inside (load q) fits = tt
  value_inside (returned c) fits = callee_inside c.callee c.arguments fits

  item_inside : (i : Item) → AllByRecursion (Fits es) (mentions i) → AllByRecursion Inside (pointers_of i)
  item_inside (variable e n) fits = tt
  item_inside (function e n k) fits = tt
  item_inside (assign p v) (h, fits) = value_inside v fits
  item_inside (store p q) fits = tt
  item_inside (invoke c) fits = callee_inside c.callee c.arguments fits

  -- the pointers of their calls are in the table
  pub pointers_inside : (ss : List Statement) → AllByRecursion (Fits es) (flat_map mentions_at ss) → AllByRecursion Inside (flat_map pointers_at ss)
  pointers_inside [] fits = tt
  pointers_inside (s ∷ ss) fits =
      let (here, later) = all_split (Fits es) (mentions_at s) (flat_map mentions_at ss) fits in
      All-append Inside (pointers_at s) (flat_map pointers_at ss) (item_inside s.item here) (pointers_inside ss later)
