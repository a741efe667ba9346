-- A load, step by step: what its tests say of the units and the text.
use Rattle.std.proofs.Common.{◌≡◌, ℕ, ◌+◌, ◌-◌, ◌<◌, ◌≤◌, Bool, true, false, List, length, get_or, set, is_some, is_ok, Some, None, Ok, Option, sym, refl, ap, ◌∙◌, subst, ⊎_elim, arith}
use Rattle.std.proofs.lemmas.List.{length-map, length-set, map-set}
use Rattle.grammar.specs.Units.{outcome, read}
use Rattle.units.specs.Listing.{words_in, pointers_in}
use Rattle.grammar.specs.declared.unit_text.UnitText.{UnitText}
use Rattle.grammar.specs.Texts.{text_in}
use Rattle.declarations.specs.Declarations.{declarations_in}
use Rattle.names.specs.declared.table.NameTable.{NameTable}
use Rattle.names.specs.Notes.{standing as still_mentioned, then_note}
use Rattle.names.specs.Held.{notes}
use Rattle.books.specs.Books.{Units, standing, words, indirect_calls, Book}
use Rattle.books.specs.Loads.{first_at, clash, too_many_variables}
use Rattle.books.specs.Counts.{OneMore}
use Rattle.books.specs.Members.{◌∈◌}
use Rattle.books.proofs.Loads.{load_adds, load_keeps, stood, still_stands, unload_takes, unload_keeps}
use Rattle.books.proofs.Counts.{stood_there}
use Rattle.standing.specs.Loads.{stands}
use Rattle.standing.specs.Knowledge.{text_of, texts_in, Knows, Sound}
use Rattle.standing.specs.Passes.{clashes_known, Known, known_in, enter_all, fit_all, forget_all}
use Rattle.standing.proofs.Refusing.{none_there, text_at, Accepted, words_within, calls_within}
use Rattle.standing.proofs.Clashing.{clash_known}
use Rattle.standing.proofs.Sounds.{was_read}
use Rattle.standing.proofs.Loading.{load_known, load_over}
use Rattle.standing.proofs.Unloading.{unloaded}

-- the slot that was read at u says whether the unit stands
pub stands_is : (texts : List (Option UnitText)) (u : ℕ) (slot : Option UnitText) → u < length texts → slot ≡ get_or texts u slot
    → (b : Bool) → b ≡ is_some slot → stands (texts_in texts) u ≡ b
stands_is texts u slot inside at b test =
    ap is_some (text_at texts u slot inside ∙ ap text_of (sym at)) ∙ kept slot ∙ sym test
  where
    kept : (o : Option UnitText) → is_some (text_of o) ≡ is_some o
    kept None = refl
    kept (Some t) = refl

module _ {texts : List (Option UnitText)} {names : NameTable} {word_count call_count : ℕ} (s : Sound texts names word_count call_count) (u : ℕ) (text : List ℕ) (inside : u ≤ 7)
    (free : stands (texts_in texts) u ≡ false) (fine : Accepted text) where
  nothing : get_or (texts_in texts) u None ≡ None
  nothing = none_there _ free

  pub clash_is : (o : Option ℕ) → o ≡ first_at (clashes_known (notes names)) (declarations_in text) → clash (standing (texts_in texts)) text ≡ o
  clash_is o e = clash_known (standing (texts_in texts)) (notes names) s.book s.known text ∙ sym e

  within : u < length (texts_in texts)
  within = omega (arith, length-map texts text_of, s.eight)

  eight : length (texts_in texts) ≤ 8
  eight = omega (arith, length-map texts text_of, s.eight)

  adds : OneMore (standing (texts_in texts)) (standing (set (texts_in texts) u (Some text))) text
  adds = load_adds (texts_in texts) u text within nothing

  pub word_total : (n : ℕ) → n ≡ length (words_in text) → length (words (standing (set (texts_in texts) u (Some text)))) ≡ word_count + n
  word_total n e = omega (arith, adds.word_count, s.words_counted, e)

  pub call_total : (n : ℕ) → n ≡ length (pointers_in text) → length (indirect_calls (standing (set (texts_in texts) u (Some text)))) ≡ call_count + n
  call_total n e = omega (arith, adds.call_count, s.calls_counted, e)

  module _ (clear : clash (standing (texts_in texts)) text ≡ None) where
    pub variables_over : fit_all (known_in names) (declarations_in text) ≡ false → too_many_variables (standing (set (texts_in texts) u (Some text))) ≡ true
    variables_over = load_over (texts_in texts) u text names within eight nothing s.book s.known fine.faultless clear

    module _ (fits : fit_all (known_in names) (declarations_in text) ≡ true) where
      pub variables_fit : too_many_variables (standing (set (texts_in texts) u (Some text))) ≡ false
      variables_fit = (load_known (texts_in texts) u text names within eight nothing s.book s.known fine.faultless clear fits).1

      -- with the text in its slot, the table that entered its names, and the counts raised
      pub load_sound : (kept : UnitText) (entered : NameTable) (nw nc : ℕ) → text_in kept ≡ text
          → known_in entered ≡ enter_all (known_in names) (declarations_in text)
          → nw ≡ length (words_in text) → nc ≡ length (pointers_in text) → word_count + nw ≤ 512 → call_count + nc ≤ 64
          → Sound (set texts u (Some kept)) entered (word_count + nw) (call_count + nc)
      load_sound kept entered nw nc put is_entered is_words is_calls few_words few_calls =
          record {
            eight = length-set texts u (Some kept) ∙ s.eight;
            book = subst (λ (us : Units). Book (standing us)) (sym there) book;
            admitted = subst (λ (us : Units). (t : List ℕ) → t ∈ standing us → is_ok (outcome (read t)) ≡ true) (sym there) admitted;
            known = subst (λ (us : Units). Knows (notes entered) (standing us)) (sym there) known;
            words_counted = sym (ap (λ (us : Units). length (words (standing us))) there ∙ word_total nw is_words);
            calls_counted = sym (ap (λ (us : Units). length (indirect_calls (standing us))) there ∙ call_total nc is_calls);
          }
        where
          there : texts_in (set texts u (Some kept)) ≡ set (texts_in texts) u (Some text)
          there = map-set text_of texts u (Some kept) ∙ ap (λ t. set (texts_in texts) u (Some t)) put

          admitted : (t : List ℕ) → t ∈ standing (set (texts_in texts) u (Some text)) → is_ok (outcome (read t)) ≡ true
          admitted t t_in =
              ⊎_elim (λ (new : t ≡ text). ap (λ (x : List ℕ). is_ok (outcome (read x))) new ∙ sym (ap is_ok fine.admitted)) (s.admitted t)
              (stood (texts_in texts) u text t t_in)

          known : Knows (notes entered) (standing (set (texts_in texts) u (Some text)))
          known =
              subst (λ (k : Known). Knows k.known (standing (set (texts_in texts) u (Some text)))) (sym is_entered)
              (load_known (texts_in texts) u text names within eight nothing s.book s.known fine.faultless clear fits).0

          book : Book (standing (set (texts_in texts) u (Some text)))
          book =
              load_keeps (texts_in texts) u text s.book
              (record {
                number_in = within;
                free = nothing;
                faultless = fine.faultless;
                no_clash = clear;
                variables_in = variables_fit;
                words_in = words_within _ _ (word_total nw is_words) few_words;
                calls_in = calls_within _ _ (call_total nc is_calls) few_calls;
              })

-- ---- an unload

module _ {texts : List (Option UnitText)} {names : NameTable} {word_count call_count : ℕ} (s : Sound texts names word_count call_count) (u : ℕ) (text : List ℕ) (there : get_or (texts_in texts) u None ≡ Some text) where
  takes : OneMore (standing (set (texts_in texts) u None)) (standing (texts_in texts)) text
  takes = unload_takes (texts_in texts) u text there

  pub text_read : Ok tt ≡ outcome (read text)
  text_read = was_read _ (s.admitted text (stood_there _ u text there))

  pub words_less : (n : ℕ) → n ≡ length (words_in text) → n ≤ word_count
  words_less n e = omega (arith, takes.word_count, s.words_counted, e)

  pub calls_less : (n : ℕ) → n ≡ length (pointers_in text) → n ≤ call_count
  calls_less n e = omega (arith, takes.call_count, s.calls_counted, e)

  pub unload_sound : (left : NameTable) (nw nc : ℕ)
      → ((n : List ℕ) → notes left n ≡ then_note still_mentioned (forget_all (notes names) (declarations_in text) n))
      → nw ≡ length (words_in text) → nc ≡ length (pointers_in text)
      → Sound (set texts u None) left (word_count - nw) (call_count - nc)
  unload_sound left nw nc swept is_words is_calls =
      record {
        eight = length-set texts u None ∙ s.eight;
        book = subst (λ (us : Units). Book (standing us)) (sym gone) (unload_keeps (texts_in texts) u s.book);
        admitted = subst (λ (us : Units). (t : List ℕ) → t ∈ standing us → is_ok (outcome (read t)) ≡ true) (sym gone) (λ t t_in. s.admitted t (still_stands (texts_in texts) u t t_in));
        known = subst (λ (us : Units). Knows (notes left) (standing us)) (sym gone)
            (unloaded (texts_in texts) u text (notes names) there s.book s.known (s.book.faultless text (stood_there _ u text there)) (notes left) swept);
        words_counted = omega (arith, takes.word_count, s.words_counted, is_words, ap (λ (us : Units). length (words (standing us))) gone);
        calls_counted = omega (arith, takes.call_count, s.calls_counted, is_calls, ap (λ (us : Units). length (indirect_calls (standing us))) gone);
      }
    where
      gone : texts_in (set texts u None) ≡ set (texts_in texts) u None
      gone = map-set text_of texts u None
