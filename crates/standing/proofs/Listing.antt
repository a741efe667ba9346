-- The words of the standing units, one unit after another.
use Rattle.std.proofs.Common.{◌≡◌, ℕ, zero, suc, ◌+◌, ◌<◌, ◌≤◌, cond, ltb, List, [], ◌∷◌, ◌++◌, map, length, get_or, take, set, Some, None, Option, unwrap_or, sym, refl, ap, ◌∙◌, inl, inr, append_assoc, arith}
use Rattle.std.specs.List.{flat_map, AllByRecursion}
use Rattle.std.proofs.lemmas.List.{append-nil, length-append, length-map, length-set, take_more_set}
use Rattle.std.proofs.lemmas.Bool.{lt-ltb, cond-true}
use Rattle.constraints.specs.Constraint.{System, variables}
use Rattle.constraints.specs.Encoding.{word_of as constraint_word}
use Rattle.grammar.specs.Parse.{Statement}
use Rattle.grammar.specs.Units.{statements_in}
use Rattle.units.specs.declared.listing.ListedWord.{ListedWord}
use Rattle.units.specs.Words.{Named, word}
use Rattle.units.specs.Listing.{words_at, words_in, tagged, listed, listing, overlaid}
use Rattle.declarations.specs.Declarations.{Entry, size_of}
use Rattle.names.specs.declared.record.Note.{Note}
use Rattle.books.specs.Members.{◌∈◌}
use Rattle.books.specs.Tables.{first_of, blocks}
use Rattle.books.specs.Books.{Units, standing, table, words, list_of, Book}
use Rattle.books.specs.Listing.{listing_from, listed_words, word_of}
use Rattle.books.proofs.Embedding.{Lawful}
use Rattle.books.proofs.Lists.{standing_lawful}
use Rattle.books.proofs.Listing.{listing_words}
use Rattle.standing.specs.Firsts.{laid_first, first_at, unit_listing}
use Rattle.standing.specs.Firsts as firsts
use Rattle.standing.proofs.Placing.{first_below}

-- ---- writing over

pub taken_over : {X : Type 0} (xs ys : List X) (n : ℕ) → n + length ys ≤ length xs → take (n + length ys) (overlaid xs n ys) ≡ take n xs ++ ys
taken_over xs [] n h = ap (λ (k : ℕ). take k xs) (omega arith) ∙ sym (append-nil (take n xs))
taken_over xs (y ∷ ys) n h =
    let lt : n < length xs = omega arith in
    ap (λ (k : ℕ). take k (overlaid (set xs n y) (n + 1) ys)) (omega arith)
    ∙ taken_over (set xs n y) ys (n + 1) (omega (arith, length-set xs n y))
    ∙ ap (λ (zs : List _). zs ++ ys) (take_more_set xs n y lt) ∙ append_assoc (take n xs) (y ∷ []) ys

-- ---- unit by unit

module _ (f : List ℕ → ℕ) where
  listing_step : (us : Units) (s v : ℕ) → listing_from f s (take (suc v) us) ≡ listing_from f s (take v us) ++ unit_listing f (s + v) (get_or us v None)
  listing_step [] s zero = refl
  listing_step [] s (suc v) = refl
  listing_step (None ∷ us) s zero = refl
  listing_step (Some t ∷ us) s zero = append-nil (listing f s t) ∙ ap (λ (k : ℕ). listing f k t) (omega arith)
  listing_step (None ∷ us) s (suc v) =
      listing_step us (s + 1) v ∙ ap (λ (k : ℕ). listing_from f (s + 1) (take v us) ++ unit_listing f k (get_or us v None)) (omega arith)
  listing_step (Some t ∷ us) s (suc v) =
      ap (λ (ls : List ListedWord). listing f s t ++ ls)
      (listing_step us (s + 1) v ∙ ap (λ (k : ℕ). listing_from f (s + 1) (take v us) ++ unit_listing f k (get_or us v None)) (omega arith))
      ∙ sym (append_assoc (listing f s t) (listing_from f (s + 1) (take v us)) (unit_listing f (s + suc v) (get_or us v None)))

  pub listing_more : (us : Units) (v : ℕ) → listing_from f 0 (take (v + 1) us) ≡ listing_from f 0 (take v us) ++ unit_listing f v (get_or us v None)
  listing_more us v =
      let next : v + 1 ≡ suc v = omega arith in
      let there : 0 + v ≡ v = omega arith in
      ap (λ (k : ℕ). listing_from f 0 (take k us)) next ∙ listing_step us 0 v ∙ ap (λ (k : ℕ). listing_from f 0 (take v us) ++ unit_listing f k (get_or us v None)) there

  pub listing_part : (us : Units) (s v : ℕ) → length (listing_from f s (take v us)) ≤ length (listing_from f s us)
  listing_part [] s zero = omega arith
  listing_part [] s (suc v) = omega arith
  listing_part (u ∷ us) s zero = omega arith
  listing_part (None ∷ us) s (suc v) = listing_part us (s + 1) v
  listing_part (Some t ∷ us) s (suc v) =
      let rest = listing_part us (s + 1) v in
      omega (arith, length-append (listing f s t) (listing_from f (s + 1) (take v us)), length-append (listing f s t) (listing_from f (s + 1) us), rest)

  -- one unit more is written behind the others
  module _ (us : Units) (v n : ℕ) (out : List ListedWord) (long : length out ≡ 512) (few : length (listing_from f 0 us) ≤ 512)
      (count : n ≡ length (listing_from f 0 (take v us))) (before : take n out ≡ listing_from f 0 (take v us)) where
    abbrev more : List ListedWord
    more = unit_listing f v (get_or us v None)

    pub listing_count : n + length (unit_listing f v (get_or us v None)) ≡ length (listing_from f 0 (take (v + 1) us))
    listing_count = omega (arith, count, ap length (listing_more us v), length-append (listing_from f 0 (take v us)) more)

    pub listing_room : n + length (unit_listing f v (get_or us v None)) ≤ 512
    listing_room = omega (arith, listing_count, listing_part us 0 (v + 1), few)

    pub listing_there : take (n + length (unit_listing f v (get_or us v None))) (overlaid out n (unit_listing f v (get_or us v None))) ≡ listing_from f 0 (take (v + 1) us)
    listing_there =
        taken_over out more n (omega (arith, listing_room, long)) ∙ ap (λ (ls : List ListedWord). ls ++ unit_listing f v (get_or us v None)) before ∙ sym (listing_more us v)

-- ---- by the table's first variables

module _ (es : List Entry) (known : List ℕ → Option Note) (few : variables (blocks es) ≤ 256) (laid : (n : List ℕ) → firsts.first_in (known n) ≡ laid_first es n) where
  pub first_same : (n : List ℕ) → 0 < size_of es n → first_at (known n) ≡ first_of es n
  first_same n lt =
      ap (λ f. let v = unwrap_or f 0 in cond (ltb v 256) v 0) (laid n ∙ cond-true _ _ _ (lt-ltb 0 (size_of es n) lt))
      ∙ cond-true _ _ _ (lt-ltb (first_of es n) 256 (omega (arith, first_below es n lt, few, lt)))

  word_same : (w : Named) → Lawful es w → word (λ n. first_at (known n)) w ≡ word (first_of es) w
  word_same w lawful =
      ap (λ (l : ℕ). word_of_parts (l + w.left.slot) (first_at (known w.right.name) + w.right.slot)) (first_same w.left.name (omega (arith, lawful.left_in)))
      ∙ ap (λ (r : ℕ). word_of_parts (first_of es w.left.name + w.left.slot) (r + w.right.slot)) (first_same w.right.name (omega (arith, lawful.right_in)))
    where
      word_of_parts : ℕ → ℕ → ℕ
      word_of_parts p q = constraint_word w.kind p w.offset q

  words_same : (ws : List Named) → AllByRecursion (Lawful es) ws → map (word (λ n. first_at (known n))) ws ≡ map (word (first_of es)) ws
  words_same [] all = refl
  words_same (w ∷ ws) (lawful, all) = ap₂ (word_same w lawful) (words_same ws all)
    where
      ap₂ : {x y : ℕ} {xs ys : List ℕ} → x ≡ y → xs ≡ ys → x ∷ xs ≡ y ∷ ys
      ap₂ e h = cc

  statements_same : (u : ℕ) (ss : List Statement) → AllByRecursion (Lawful es) (flat_map words_at ss) → flat_map (listed (λ n. first_at (known n)) u) ss ≡ flat_map (listed (first_of es) u) ss
  statements_same u [] all = refl
  statements_same u (s ∷ ss) all =
      let (own, rest) = all_parts (Lawful es) (words_at s) (flat_map words_at ss) all in
      ap (λ (ws : List ℕ). map (tagged u s.at) ws ++ flat_map (listed (λ n. first_at (known n)) u) ss) (words_same (words_at s) own)
      ∙ ap (λ (ls : List ListedWord). map (tagged u s.at) (map (word (first_of es)) (words_at s)) ++ ls) (statements_same u ss rest)
    where
      all_parts : {X : Type 0} (P : X → Type 0) (xs ys : List X) → AllByRecursion P (xs ++ ys) → AllByRecursion P xs × AllByRecursion P ys
      all_parts P [] ys h = (tt, h)
      all_parts P (x ∷ xs) ys (p, h) = let (a, b) = all_parts P xs ys h in ((p, a), b)

  listing_same : (u : ℕ) (t : List ℕ) → AllByRecursion (Lawful es) (words_in t) → listing (λ n. first_at (known n)) u t ≡ listing (first_of es) u t
  unfolding listing words_in
  listing_same u t all = statements_same u (statements_in t) all

  pub units_same : (u : ℕ) (us : Units) → ((t : List ℕ) → t ∈ standing us → AllByRecursion (Lawful es) (words_in t))
      → listing_from (λ n. first_at (known n)) u us ≡ listing_from (first_of es) u us
  units_same u [] all = refl
  units_same u (None ∷ us) all = units_same (u + 1) us all
  units_same u (Some t ∷ us) all =
      ap (λ (ls : List ListedWord). ls ++ listing_from (λ n. first_at (known n)) (u + 1) us) (listing_same u t (all t (inl refl)))
      ∙ ap (λ (ls : List ListedWord). listing (first_of es) u t ++ ls) (units_same (u + 1) us (λ s s_in. all s (inr s_in)))

-- the words of the standing units by the table that was laid out are the list's
pub list_same : (units : Units) (known : List ℕ → Option Note) → Book (standing units) → ((n : List ℕ) → firsts.first_in (known n) ≡ laid_first (table (standing units)) n)
    → listing_from (λ n. first_at (known n)) 0 units ≡ listed_words units
unfolding listed_words
list_same units known book laid = units_same (table (standing units)) known book.few laid 0 units (standing_lawful (standing units) book)

pub listed_few : (units : Units) → Book (standing units) → length (listed_words units) ≤ 512
listed_few units book =
    omega (arith, length-map (listed_words units) word_of, ap length (listing_words units), length-map (words (standing units)) (word (first_of (table (standing units)))), book.few_words)

pub list_is : (texts : List (List ℕ)) (l : System) → l.blocks ≡ (list_of texts).blocks → l.words ≡ (list_of texts).words → l ≡ list_of texts
list_is texts l blocks_are words_are =
    ap (λ (bs : List ℕ). record { blocks = bs; words = l.words }) blocks_are ∙ ap (λ (ws : List ℕ). record { blocks = (list_of texts).blocks; words = ws }) words_are
