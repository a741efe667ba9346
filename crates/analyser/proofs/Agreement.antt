-- Two histories that go on from the same texts are replied alike.
use Rattle.std.proofs.Common.{◌≡◌, ℕ, ◌<◌, not, ltb, List, [], ◌∷◌, length, get_or, take, set, is_some, Some, None, Ok, Option, sym, ap, ◌∙◌, arith}
use Rattle.std.proofs.lemmas.List.{ext_get_or}
use Rattle.declarations.specs.Verdicts.{unit_verdict}
use Rattle.analyser.specs.declared.Call.{Call}
use Rattle.analyser.specs.declared.Call.TheVariants.{Load, Unload}
use Rattle.analyser.specs.declared.Done.TheVariants.{Loaded, Unloaded}
use Rattle.analyser.specs.declared.refusal.Refusal.{Refusal}
use Rattle.analyser.specs.declared.refusal.Refusal.TheVariants.{NoSuchUnit, UnitStands, NothingStands}
use Rattle.analyser.specs.Books.{Book, unless, unsettled, load_refusal, unload_refusal}
use Rattle.analyser.specs.Histories.{Reply, Says, History, next_book, book_from, call_at, reply_at}
use Rattle.analyser.specs.Refusals.{refused_if, refused_text, first_of, refused_or}

-- a change of the book shows in its texts alone
texts_after : (o p : Option Refusal) (f : List (Option (List ℕ)) → List (Option (List ℕ))) (b c : Book) → o ≡ p → b.texts ≡ c.texts → (unless o (unsettled (f b.texts)) b).texts ≡ (unless p (unsettled (f c.texts)) c).texts
texts_after None None f b c e same = ap f same
texts_after (Some r) (Some s) f b c e same = same
texts_after None (Some s) f b c e same = cc e
texts_after (Some r) None f b c e same = cc e

module _ (b c : Book) (same : b.texts ≡ c.texts) where
  load_alike : (u : ℕ) (t : List ℕ) → load_refusal b u t ≡ load_refusal c u t
  unfolding load_refusal
  load_alike u t =
      ap (λ ts. first_of (refused_if (ltb 7 u) NoSuchUnit ∷ (refused_if (is_some (get_or ts u None)) UnitStands ∷ (refused_text (unit_verdict t) ∷ [])))) same

  unload_alike : (u : ℕ) → unload_refusal b u ≡ unload_refusal c u
  unfolding unload_refusal
  unload_alike u = ap (λ ts. first_of (refused_if (ltb 7 u) NoSuchUnit ∷ (refused_if (not (is_some (get_or ts u None))) NothingStands ∷ []))) same

  said_alike : (call : Call) (r s : Reply) → Says b call r → Says c call s → r ≡ s
  said_alike (Load u t) r s p q = p ∙ ap (λ o. refused_or o Loaded) (load_alike u t.now) ∙ sym q
  said_alike (Unload u) r s p q = p ∙ ap (λ o. refused_or o Unloaded) (unload_alike u) ∙ sym q

  next_alike : (call : Call) → (next_book b call).texts ≡ (next_book c call).texts
  next_alike (Load u t) = texts_after (load_refusal b u t.now) (load_refusal c u t.now) (λ ts. set ts u (Some t.now)) b c (load_alike u t.now) same
  next_alike (Unload u) = texts_after (unload_refusal b u) (unload_refusal c u) (λ ts. set ts u None) b c (unload_alike u) same

books_alike : (b c : Book) (calls : List Call) → b.texts ≡ c.texts → (book_from b calls).texts ≡ (book_from c calls).texts
books_alike b c [] same = same
books_alike b c (d ∷ calls) same = books_alike (next_book b d) (next_book c d) calls (next_alike b c same d)

pub replies_alike : (b c : Book) (calls : List Call) (rs ss : List Reply) → History b calls rs → History c calls ss → b.texts ≡ c.texts → rs ≡ ss
replies_alike b c calls rs ss one other same =
    ext_get_or (Ok Loaded) rs ss (one.answered ∙ sym other.answered)
    (λ i h. let k : i < length calls = omega (arith, one.answered) in
    said_alike (book_from b (take i calls)) (book_from c (take i calls)) (books_alike b c (take i calls) same) (call_at calls i) (reply_at rs i) (reply_at ss i) (one.each i k) (other.each i k))
