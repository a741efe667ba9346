-- Loads and unloads keep a book.
use Rattle.std.proofs.Common.{◌≡◌, ℕ, zero, suc, ◌+◌, ◌<◌, ◌≤◌, Bool, true, false, cond, not, ◌&&◌, ◌||◌, eqb, ◌⊎◌, List, [], ◌∷◌, length, get_or, set, Some, None, Option, sym, refl, ap, ◌∙◌, subst, inl, inr, not-suc-le-zero, arith}
use Rattle.std.specs.List.{flat_map}
use Rattle.std.proofs.lemmas.List.{length-append}
use Rattle.std.proofs.lemmas.Bool.{ltb-true, ltb-false, lt-ltb, eqb-true, eq-eqb, true≢false}
use Rattle.constraints.specs.Constraint.{variables}
use Rattle.grammar.specs.declared.item.Linkage.{Linkage}
use Rattle.grammar.specs.declared.item.Linkage.TheVariants.{Defined, External}
use Rattle.units.specs.Listing.{words_in, pointers_in}
use Rattle.declarations.specs.Declarations.{size_of, Mention, declares, uses, calls, offset_of, mentions_in, declared_in, fault_in}
use Rattle.books.specs.Members.{◌∈◌, ◌⊆◌, any_of, count_of}
use Rattle.books.specs.Tables.{blocks}
use Rattle.books.specs.Books.{Units, standing, table, words, indirect_calls, is_defined, declares_name, defines, defining, Agreed, Book}
use Rattle.books.specs.Loads.{clashes, first_at, clash, too_many_variables, too_many_words, too_many_calls, NothingIsABook, LoadKeepsBook, UnloadKeepsBook}
use Rattle.books.specs.Counts.{LoadAdds, UnloadTakes}
use Rattle.books.proofs.Options.{none_some, some_none, some_same}
use Rattle.books.proofs.Members.{none_elim, none_intro, count_none, all_in}
use Rattle.books.proofs.Declared.{size_mention, defines_mention, mention_defines, defines_declares}
use Rattle.books.proofs.Faultless.{faultless_fits, Fits}
use Rattle.books.proofs.Sizes.{fewer_variables}
use Rattle.books.proofs.Lists.{table_grows, table_once}

-- nothing passes where there is no first
pub nothing_at : (f : Mention → Bool) (ms : List Mention) → first_at f ms ≡ None → (m : Mention) → m ∈ ms → f m ≡ false
nothing_at f [] e m h = absurd h
nothing_at f (l ∷ ms) e m h = go (f l) refl e h (nothing_at f ms)
  where
    go : (b : Bool) → f l ≡ b → cond b (Some (offset_of l)) (first_at f ms) ≡ None → m ∈ (l ∷ ms)
        → (first_at f ms ≡ None → (k : Mention) → k ∈ ms → f k ≡ false) → f m ≡ false
    go true is none k ih = absurd (some_none none)
    go false is none (inl same) ih = rw same is
    go false is none (inr k) ih = ih none m k

pub at_nothing : (f : Mention → Bool) (ms : List Mention) → ((m : Mention) → m ∈ ms → f m ≡ false) → first_at f ms ≡ None
at_nothing f [] all = refl
at_nothing f (m ∷ ms) all = rw (all m (inl refl)) (at_nothing f ms (λ l l_in. all l (inr l_in)))

-- what two texts declare alike they give one size, and only one of them defines it
pub record Agree (s t : List ℕ) : Type 0 where
  pub sizes : (n : List ℕ) → 0 < size_of (declared_in s) n → 0 < size_of (declared_in t) n → size_of (declared_in s) n ≡ size_of (declared_in t) n
  pub one_defines : (n : List ℕ) → defines s n ≡ true → defines t n ≡ true → ⊥

pub agree_back : (s t : List ℕ) → Agree s t → Agree t s
agree_back s t agree =
    record { sizes = λ n some more. sym (agree.sizes n more some); one_defines = λ n one other. agree.one_defines n other one }

no_clash_parts : (a x y : Bool) → a ≡ true → (a && (not x || y)) ≡ false → (x ≡ true) × (y ≡ false)
no_clash_parts true true y e f = (refl, f)
no_clash_parts true false y e f = absurd (true≢false f)
no_clash_parts false x y e f = absurd (true≢false (sym e))

-- no clash: the new text agrees with each that stands
pub clear_agrees : (texts : List (List ℕ)) (new t : List ℕ) → clash texts new ≡ None → t ∈ texts → Agree t new
unfolding clash
clear_agrees texts new t none t_in = record { sizes = sizes; one_defines = one_defines }
  where
    free : (m : Mention) → m ∈ mentions_in new → clashes m t ≡ false
    free m m_in = none_elim (clashes m) t texts (nothing_at (λ l. any_of (clashes l) texts) (mentions_in new) none m m_in) t_in

    sizes : (n : List ℕ) → 0 < size_of (declared_in t) n → 0 < size_of (declared_in new) n → size_of (declared_in t) n ≡ size_of (declared_in new) n
    sizes n some more =
        let (e, m, k, m_in, name, is) = size_mention (mentions_in new) n more in
        let apart : (declares_name t n && (not (eqb (size_of (declared_in t) n) (suc k)) || (is_defined e && defines t n))) ≡ false =
        rw name at (free (declares e m k) m_in) in
        let (same, _) = no_clash_parts (declares_name t n) (eqb (size_of (declared_in t) n) (suc k)) _ (lt-ltb 0 (size_of (declared_in t) n) some) apart in
        eqb-true (size_of (declared_in t) n) (suc k) same ∙ sym is

    one_defines : (n : List ℕ) → defines t n ≡ true → defines new n ≡ true → ⊥
    one_defines n here there =
        let (m, k, m_in, name) = defines_mention new n there in
        let apart : (declares_name t n && (not (eqb (size_of (declared_in t) n) (suc k)) || (true && defines t n))) ≡ false =
        rw name at (free (declares Defined m k) m_in) in
        let (_, not_both) = no_clash_parts (declares_name t n) (eqb (size_of (declared_in t) n) (suc k)) (true && defines t n)
        (lt-ltb 0 (size_of (declared_in t) n) (defines_declares t n here)) apart in
        true≢false (sym here ∙ not_both)

clash_parts : (a x y : Bool) → (a ≡ true → (x ≡ true) × (y ≡ false)) → (a && (not x || y)) ≡ false
clash_parts true x y h = let (p, q) = h refl in rw (p, q) refl
clash_parts false x y h = refl

refuted : (b : Bool) → (b ≡ true → ⊥) → b ≡ false
refuted true h = absurd (h refl)
refuted false h = refl

-- a faultless text that agrees with each that stands has no clash
pub agrees_clear : (texts : List (List ℕ)) (new : List ℕ) → fault_in new ≡ None → ((t : List ℕ) → t ∈ texts → Agree t new) → clash texts new ≡ None
unfolding clash
agrees_clear texts new right agrees =
    at_nothing (λ m. any_of (clashes m) texts) (mentions_in new) (λ m m_in. none_intro (clashes m) texts (λ t t_in. clear m m_in t (agrees t t_in)))
  where
    both : (e : Linkage) (t n : List ℕ) → (e ≡ Defined → defines new n ≡ true) → Agree t new → (is_defined e && defines t n) ≡ false
    both Defined t n h agree = refuted (defines t n) (λ here. agree.one_defines n here (h refl))
    both External t n h agree = refl

    clear : (m : Mention) → m ∈ mentions_in new → (t : List ℕ) → Agree t new → clashes m t ≡ false
    clear (declares e m k) m_in t agree =
        let fits : size_of (declared_in new) m.bytes ≡ suc k = all_in (Fits (declared_in new)) (declares e m k) (mentions_in new) (faultless_fits (mentions_in new) right) m_in in
        clash_parts (declares_name t m.bytes) (eqb (size_of (declared_in t) m.bytes) (suc k)) (is_defined e && defines t m.bytes) (λ some. (
          eq-eqb (size_of (declared_in t) m.bytes) (suc k)
              (agree.sizes m.bytes (ltb-true 0 (size_of (declared_in t) m.bytes) some) (omega arith) ∙ fits),
          both e t m.bytes (λ is. mention_defines new m k (rw is at m_in)) agree,
        ))
    clear (uses p) m_in t agree = refl
    clear (calls f k) m_in t agree = refl

-- who stands after a change of one unit
pub stood : (units : Units) (u : ℕ) (new : List ℕ) (t : List ℕ) → t ∈ standing (set units u (Some new)) → (t ≡ new) ⊎ (t ∈ standing units)
stood [] u new t h = absurd h
stood (None ∷ units) zero new t (inl e) = inl e
stood (None ∷ units) zero new t (inr h) = inr h
stood (Some s ∷ units) zero new t (inl e) = inl e
stood (Some s ∷ units) zero new t (inr h) = inr (inr h)
stood (None ∷ units) (suc u) new t h = stood units u new t h
stood (Some s ∷ units) (suc u) new t (inl e) = inr (inl e)
stood (Some s ∷ units) (suc u) new t (inr h) = elim (stood units u new t h) [ inl e ↦ inl e | inr k ↦ inr (inr k) ]

-- a measure of texts, one text after another
abbrev pub Measure : (List (List ℕ) → ℕ) → (List ℕ → ℕ) → Type 0
Measure all each = (t : List ℕ) (texts : List (List ℕ)) → all (t ∷ texts) ≡ each t + all texts

module _ (all : List (List ℕ) → ℕ) (each : List ℕ → ℕ) (measure : Measure all each) where
  -- what a text under a free number adds
  pub added : (units : Units) (u : ℕ) (t : List ℕ) → u < length units → get_or units u None ≡ None
      → all (standing (set units u (Some t))) ≡ all (standing units) + each t
  added [] u t lt e = absurd (not-suc-le-zero lt)
  added (None ∷ units) zero t lt e = omega (arith, measure t (standing units))
  added (Some s ∷ units) zero t lt e = absurd (some_none e)
  added (None ∷ units) (suc u) t lt e = added units u t (omega arith) e
  added (Some s ∷ units) (suc u) t lt e =
      omega (arith, measure s (standing units), measure s (standing (set units u (Some t))), added units u t (omega arith) e)

  -- what a text takes away
  pub taken : (units : Units) (u : ℕ) (t : List ℕ) → get_or units u None ≡ Some t → all (standing units) ≡ all (standing (set units u None)) + each t
  taken [] u t e = absurd (none_some e)
  taken (None ∷ units) zero t e = absurd (none_some e)
  taken (Some s ∷ units) zero t e = measure s (standing units) ∙ rw (some_same e) (omega arith)
  taken (None ∷ units) (suc u) t e = taken units u t e
  taken (Some s ∷ units) (suc u) t e = omega (arith, measure s (standing units), measure s (standing (set units u None)), taken units u t e)

words_measure : Measure (λ texts. length (words texts)) (λ t. length (words_in t))
unfolding words
words_measure t texts = length-append (words_in t) (flat_map words_in texts)

calls_measure : Measure (λ texts. length (indirect_calls texts)) (λ t. length (pointers_in t))
unfolding indirect_calls
calls_measure t texts = length-append (pointers_in t) (flat_map pointers_in texts)

count_measure : (f : List ℕ → Bool) → Measure (count_of f) (λ t. cond (f t) 1 0)
count_measure f t texts = refl

pub load_adds : LoadAdds
load_adds units u text lt free =
    record {
      word_count = added (λ texts. length (words texts)) (λ t. length (words_in t)) words_measure units u text lt free;
      call_count = added (λ texts. length (indirect_calls texts)) (λ t. length (pointers_in t)) calls_measure units u text lt free;
      declared = λ n. added _ _ (count_measure (λ t. declares_name t n)) units u text lt free;
      defined = λ n. added _ _ (count_measure (λ t. defines t n)) units u text lt free;
    }

pub unload_takes : UnloadTakes
unload_takes units u text stands =
    record {
      word_count = taken (λ texts. length (words texts)) (λ t. length (words_in t)) words_measure units u text stands;
      call_count = taken (λ texts. length (indirect_calls texts)) (λ t. length (pointers_in t)) calls_measure units u text stands;
      declared = λ n. taken _ _ (count_measure (λ t. declares_name t n)) units u text stands;
      defined = λ n. taken _ _ (count_measure (λ t. defines t n)) units u text stands;
    }

pub nothing_stands : NothingIsABook
unfolding table words indirect_calls
nothing_stands =
    record {
      faultless = λ t h. absurd h;
      agreed = λ t u n h. absurd h;
      defined_once = λ n. omega arith;
      few = omega arith;
      few_words = omega arith;
      few_calls = omega arith;
    }

-- an accepted text agrees with those that stand, and so do all then
pub load_agrees : (units : Units) (u : ℕ) (new : List ℕ) → Agreed (standing units) → clash (standing units) new ≡ None → Agreed (standing (set units u (Some new)))
load_agrees units u new agreed clear s t n s_in t_in some more =
    elim (stood units u new s s_in) [
      | inl is_new ↦
          elim (stood units u new t t_in) [
            | inl is_too ↦ ap (λ x. size_of (declared_in x) n) (is_new ∙ sym is_too)
            | inr h ↦ rw is_new (sym ((clear_agrees (standing units) new t clear h).sizes n more (rw is_new at some)))
          ]
      | inr k ↦
          elim (stood units u new t t_in) [
            | inl is_new ↦ rw is_new ((clear_agrees (standing units) new s clear k).sizes n some (rw is_new at more))
            | inr h ↦ agreed s t n k h some more
          ]
    ]

defined_then : (texts : List (List ℕ)) (new n : List ℕ) → clash texts new ≡ None → defining texts n ≤ 1 → (b : Bool) → defines new n ≡ b
    → defining texts n + cond b 1 0 ≤ 1
defined_then texts new n clear few true is =
    omega (arith, count_none (λ t. defines t n) texts (λ t t_in. refuted (defines t n) (λ here. (clear_agrees texts new t clear t_in).one_defines n here is)))
defined_then texts new n clear few false is = omega arith

pub load_keeps : LoadKeepsBook
unfolding too_many_variables too_many_words too_many_calls
load_keeps units u new book admitted =
    let texts = standing (set units u (Some new)) in
    let more = load_adds units u new admitted.number_in admitted.free in
    record {
      faultless = λ t t_in. elim (stood units u new t t_in) [ inl e ↦ rw e admitted.faultless | inr h ↦ book.faultless t h ];
      agreed = load_agrees units u new book.agreed admitted.no_clash;
      defined_once = λ n.
          omega (arith, more.defined n, defined_then (standing units) new n admitted.no_clash (book.defined_once n) (defines new n) refl);
      few = ltb-false 256 (variables (blocks (table texts))) admitted.variables_in;
      few_words = ltb-false 512 (length (words texts)) admitted.words_in;
      few_calls = ltb-false 64 (length (indirect_calls texts)) admitted.calls_in;
    }

pub still_stands : (units : Units) (u : ℕ) → standing (set units u None) ⊆ standing units
still_stands [] u t h = h
still_stands (None ∷ units) zero t h = h
still_stands (Some s ∷ units) zero t h = inr h
still_stands (None ∷ units) (suc u) t h = still_stands units u t h
still_stands (Some s ∷ units) (suc u) t (inl e) = inl e
still_stands (Some s ∷ units) (suc u) t (inr h) = inr (still_stands units u t h)

-- fewer texts, no more variables
pub fewer_then : (ts us : List (List ℕ)) → Agreed us → ts ⊆ us → variables (blocks (table ts)) ≤ variables (blocks (table us))
fewer_then ts us agreed sub = fewer_variables (table ts) (table us) (table_once ts) (table_grows ts us agreed sub)

same_units : (units : Units) (u : ℕ) → get_or units u None ≡ None → standing (set units u None) ≡ standing units
same_units [] u e = refl
same_units (None ∷ units) zero e = refl
same_units (Some s ∷ units) zero e = absurd (some_none e)
same_units (None ∷ units) (suc u) e = same_units units u e
same_units (Some s ∷ units) (suc u) e = ap (λ texts. s ∷ texts) (same_units units u e)

pub unload_keeps : UnloadKeepsBook
unload_keeps units u book = go (get_or units u None) refl
  where
    go : (o : Option (List ℕ)) → get_or units u None ≡ o → Book (standing (set units u None))
    go None e = subst Book (sym (same_units units u e)) book
    go (Some text) e =
        let sub = still_stands units u in
        let less = unload_takes units u text e in
        record {
          faultless = λ t t_in. book.faultless t (sub t t_in);
          agreed = λ s t n s_in t_in. book.agreed s t n (sub s s_in) (sub t t_in);
          defined_once = λ n. omega (arith, less.defined n, book.defined_once n);
          few = omega (arith, fewer_then (standing (set units u None)) (standing units) book.agreed sub, book.few);
          few_words = omega (arith, less.word_count, book.few_words);
          few_calls = omega (arith, less.call_count, book.few_calls);
        }
