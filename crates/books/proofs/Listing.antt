-- The listing has the words of the list, in order, and each is one of its statement.
use Rattle.std.proofs.Common.{◌≡◌, ℕ, zero, suc, ◌+◌, ◌<◌, List, [], ◌∷◌, ◌++◌, map, length, get_or, Some, None, sym, refl, ap, ◌∙◌, inl, inr, not-suc-le-zero, arith}
use Rattle.std.specs.List.{flat_map, slice_get}
use Rattle.std.proofs.lemmas.List.{map-append, length-map}
use Rattle.grammar.specs.Parse.{Statement}
use Rattle.grammar.specs.Units.{statements_in}
use Rattle.units.specs.declared.listing.ListedWord.{ListedWord}
use Rattle.units.specs.Words.{Named, word}
use Rattle.units.specs.Listing.{words_at, words_in, tagged, listed, listing}
use Rattle.books.specs.Members.{◌∈◌}
use Rattle.books.specs.Books.{Units, standing, words, list_of}
use Rattle.books.specs.Listing.{listing_from, first_in, listed_words, word_of, ListingHasTheWords, WordsHaveOrigins}
use Rattle.books.proofs.Options.{none_some, some_same}
use Rattle.books.proofs.Members.{in_either, joined_in, in_map, nth_in}

untagged : (u at : ℕ) (ws : List ℕ) → map word_of (map (tagged u at) ws) ≡ ws
untagged u at [] = refl
untagged u at (w ∷ ws) = ap (λ vs. w ∷ vs) (untagged u at ws)

module _ (first : List ℕ → ℕ) where
  statement_words : (u : ℕ) (ss : List Statement) → map word_of (flat_map (listed first u) ss) ≡ map (word first) (flat_map words_at ss)
  statement_words u [] = refl
  statement_words u (s ∷ ss) =
      map-append word_of (listed first u s) (flat_map (listed first u) ss)
      ∙ (λ k. untagged u s.at (map (word first) (words_at s)) k ++ statement_words u ss k)
      ∙ sym (map-append (word first) (words_at s) (flat_map words_at ss))

  text_words : (u : ℕ) (t : List ℕ) → map word_of (listing first u t) ≡ map (word first) (words_in t)
  unfolding listing words_in
  text_words u t = statement_words u (statements_in t)

  unit_words : (u : ℕ) (units : Units) → map word_of (listing_from first u units) ≡ map (word first) (flat_map words_in (standing units))
  unit_words u [] = refl
  unit_words u (None ∷ units) = unit_words (u + 1) units
  unit_words u (Some t ∷ units) =
      map-append word_of (listing first u t) (listing_from first (u + 1) units)
      ∙ (λ k. text_words u t k ++ unit_words (u + 1) units k)
      ∙ sym (map-append (word first) (words_in t) (flat_map words_in (standing units)))

  -- a listed word is one of a statement of its unit's text
  from_text : (u : ℕ) (t : List ℕ) (l : ListedWord) → l ∈ listing first u t
      → (s : Statement) × (w : Named) × (s ∈ statements_in t) × (w ∈ words_at s) × (l ≡ tagged u s.at (word first w))
  unfolding listing
  from_text u t l h =
      let (s, s_in, k) = joined_in (listed first u) l (statements_in t) h in
      let (v, v_in, tag) = in_map (tagged u s.at) l (map (word first) (words_at s)) k in
      let (w, w_in, is) = in_map (word first) v (words_at s) v_in in
      (s, w, s_in, w_in, tag ∙ ap (tagged u s.at) is)

  from_unit : (u : ℕ) (units : Units) (l : ListedWord) → l ∈ listing_from first u units
      → (k : ℕ) × (t : List ℕ) × (get_or units k None ≡ Some t) × (l ∈ listing first (u + k) t)
  from_unit u [] l h = absurd h
  from_unit u (None ∷ units) l h =
      let (k, t, stands, l_in) = from_unit (u + 1) units l h in
      let number : u + 1 + k ≡ u + suc k = omega arith in
      (suc k, t, stands, rw number at l_in)
  from_unit u (Some t ∷ units) l h =
      elim (in_either l (listing first u t) (listing_from first (u + 1) units) h) [
        | inl here ↦ let number : u + 0 ≡ u = omega arith in (0, t, refl, rw number here)
        | inr later ↦
            let (k, s, stands, l_in) = from_unit (u + 1) units l later in
            let number : u + 1 + k ≡ u + suc k = omega arith in
            (suc k, s, stands, rw number at l_in)
      ]

pub listing_words : ListingHasTheWords
unfolding listed_words words
listing_words units = unit_words (first_in units) 0 units

some_nth : {X : Type 0} (xs : List X) (i : ℕ) → i < length xs → (x : X) × (slice_get xs i ≡ Some x)
some_nth [] i lt = absurd (not-suc-le-zero lt)
some_nth (x ∷ xs) zero lt = (x, refl)
some_nth (x ∷ xs) (suc i) lt = some_nth xs i (omega arith)

nth_map : {X : Type 0} (f : X → ℕ) (xs : List X) (i : ℕ) (x : X) → slice_get xs i ≡ Some x → get_or (map f xs) i 0 ≡ f x
nth_map f [] i x e = absurd (none_some e)
nth_map f (y ∷ ys) zero x e = ap f (some_same e)
nth_map f (y ∷ ys) (suc i) x e = nth_map f ys i x e

listed_in : (units : Units) (l : ListedWord) → l ∈ listed_words units → l ∈ listing_from (first_in units) 0 units
unfolding listed_words
listed_in units l h = h

listing_length : (units : Units) → length (listed_words units) ≡ length (list_of (standing units)).words
listing_length units = sym (length-map (listed_words units) word_of) ∙ ap length (listing_words units)

pub words_have_origins : WordsHaveOrigins
words_have_origins units i lt =
    let (l, is) = some_nth (listed_words units) i (omega (arith, listing_length units)) in
    let (k, t, stands, l_in) = from_unit (first_in units) 0 units l (listed_in units l (nth_in (listed_words units) i l is)) in
    let (s, w, s_in, w_in, tag) = from_text (first_in units) (0 + k) t l l_in in
    let number : l.unit ≡ k = ap (λ (x : ListedWord). x.unit) tag ∙ omega arith in
    record {
      listed = l;
      text = t;
      statement = s;
      named = w;
      is = is;
      stands = rw number stands;
      written = s_in;
      says = w_in;
      offset = ap (λ (x : ListedWord). x.at) tag;
      encoded = ap word_of tag;
      listed_word = sym (nth_map word_of (listed_words units) i l is) ∙ ap (λ ws. get_or ws i 0) (listing_words units);
    }
