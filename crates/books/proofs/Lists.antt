-- A book's list: a valid system, and one inside that of any book with more texts.
use Rattle.std.proofs.Common.{◌≡◌, ℕ, zero, suc, ◌<◌, List, [], ◌∷◌, None, sym, refl, ◌∙◌, inl, inr, not-suc-le-zero, arith}
use Rattle.std.specs.List.{flat_map, AllByRecursion}
use Rattle.std.specs.Str.{bytes_eq}
use Rattle.std.proofs.ByRecursion.{All-append}
use Rattle.std.proofs.lemmas.Bool.{cond_both}
use Rattle.constraints.specs.Embed.{Embeds}
use Rattle.books.specs.Members.{◌∈◌, ◌⊆◌}
use Rattle.units.specs.Words.{Named}
use Rattle.declarations.specs.Declarations.{Entry, size_of, mentions_in, declared_in, fault_in}
use Rattle.books.specs.Tables.{without, distinct}
use Rattle.grammar.specs.Units.{statements_in}
use Rattle.units.specs.Listing.{words_in}
use Rattle.books.specs.Books.{Book, Agreed, table, words, list_of}
use Rattle.books.specs.Solutions.{ListIsValid}
use Rattle.books.specs.Counts.{Short, TableHasNamesOnce}
use Rattle.books.proofs.Members.{joined_in, joined_within, all_in}
use Rattle.books.proofs.Tables.{size_distinct}
use Rattle.books.proofs.Sizes.{once_distinct}
use Rattle.books.proofs.Embedding.{Lawful, Program, Grows, SameCell, grown, embeds}
use Rattle.books.proofs.Validity.{program_valid}
use Rattle.books.proofs.Faultless.{size_left, size_right, faultless_fits, statements_lawful}
use Rattle.books.proofs.Legal.{text_legal}

all_without : (P : Entry → Type 0) (n : List ℕ) (es : List Entry) → AllByRecursion P es → AllByRecursion P (without n es)
all_without P n [] all = tt
all_without P n (e ∷ es) (p, all) =
    cond_both (bytes_eq e.name n) (without n es) (e ∷ without n es) (AllByRecursion P) (λ _. all_without P n es all) (λ _. (p, all_without P n es all))

pub all_distinct : (P : Entry → Type 0) (es : List Entry) → AllByRecursion P es → AllByRecursion P (distinct es)
all_distinct P [] all = tt
all_distinct P (e ∷ es) (p, all) = (p, all_without P e.name (distinct es) (all_distinct P es all))

pub all_short : (texts : List (List ℕ)) → AllByRecursion Short (flat_map declared_in texts)
all_short [] = tt
all_short (t ∷ texts) = All-append Short (declared_in t) (flat_map declared_in texts) (text_legal t).1 (all_short texts)

-- a name of the list is declared in some text, with that block
pub size_from : (texts : List (List ℕ)) (n : List ℕ) → 0 < size_of (flat_map declared_in texts) n
    → (t : List ℕ) × (t ∈ texts) × (size_of (flat_map declared_in texts) n ≡ size_of (declared_in t) n)
size_from [] n lt = absurd (not-suc-le-zero lt)
size_from (t ∷ texts) n lt = go (size_of (declared_in t) n) refl (size_from texts n)
  where
    go : (k : ℕ) → size_of (declared_in t) n ≡ k
        → (0 < size_of (flat_map declared_in texts) n → (u : List ℕ) × (u ∈ texts) × (size_of (flat_map declared_in texts) n ≡ size_of (declared_in u) n))
        → (u : List ℕ) × (u ∈ (t ∷ texts)) × (size_of (flat_map declared_in (t ∷ texts)) n ≡ size_of (declared_in u) n)
    go zero e ih =
        let same : size_of (flat_map declared_in (t ∷ texts)) n ≡ size_of (flat_map declared_in texts) n = size_right (declared_in t) (flat_map declared_in texts) n e in
        let (u, u_in, is) = ih (rw same at lt) in
        (u, inr u_in, same ∙ is)
    go (suc k) e ih = (t, inl refl, size_left (declared_in t) (flat_map declared_in texts) n (omega arith))

-- a name that a text declares is one of the list
pub size_some : (texts : List (List ℕ)) (t n : List ℕ) → t ∈ texts → 0 < size_of (declared_in t) n → 0 < size_of (flat_map declared_in texts) n
size_some [] t n t_in lt = absurd t_in
size_some (u ∷ texts) t n (inl e) lt =
    let here : 0 < size_of (declared_in u) n = rw e at lt in
    rw (size_left (declared_in u) (flat_map declared_in texts) n here) here
size_some (u ∷ texts) t n (inr h) lt = go (size_of (declared_in u) n) refl (size_some texts t n h lt)
  where
    go : (k : ℕ) → size_of (declared_in u) n ≡ k → 0 < size_of (flat_map declared_in texts) n → 0 < size_of (flat_map declared_in (u ∷ texts)) n
    go zero e later = rw (size_right (declared_in u) (flat_map declared_in texts) n e) later
    go (suc k) e later = omega (arith, size_left (declared_in u) (flat_map declared_in texts) n (omega arith))

pub table_size : (texts : List (List ℕ)) (n : List ℕ) → size_of (table texts) n ≡ size_of (flat_map declared_in texts) n
unfolding table
table_size texts n = size_distinct (flat_map declared_in texts) n

-- in a book a name has the same block as in each text that declares it
pub text_grows : (texts : List (List ℕ)) → Agreed texts → (t : List ℕ) → t ∈ texts → Grows (declared_in t) (table texts)
text_grows texts agreed t t_in n lt =
    let (u, u_in, is) = size_from texts n (size_some texts t n t_in lt) in
    let some : 0 < size_of (declared_in u) n = rw is at (size_some texts t n t_in lt) in
    table_size texts n ∙ is ∙ agreed u t n u_in t_in some lt

pub table_grows : (ts us : List (List ℕ)) → Agreed us → ts ⊆ us → Grows (table ts) (table us)
table_grows ts us agreed sub n lt =
    let (t, t_in, is) = size_from ts n (rw (table_size ts n) at lt) in
    let some : 0 < size_of (declared_in t) n = omega (arith, table_size ts n, is) in
    text_grows us agreed t (sub t t_in) n some ∙ sym (table_size ts n ∙ is)

lawful_grown : (es fs : List Entry) (w : Named) → Grows es fs → Lawful es w → Lawful fs w
lawful_grown es fs w grows lawful =
    record {
      left_in = grown es fs w.left grows lawful.left_in;
      right_in = grown es fs w.right grows lawful.right_in;
      kind_in = lawful.kind_in;
      offset_in = lawful.offset_in;
      no_offset = lawful.no_offset;
      object_right = lawful.object_right;
    }

-- the words of a faultless text are lawful over its declarations
text_lawful : (text : List ℕ) → fault_in text ≡ None → AllByRecursion (Lawful (declared_in text)) (words_in text)
unfolding mentions_in words_in
text_lawful text e = statements_lawful (declared_in text) (statements_in text) (text_legal text).0 (faultless_fits (mentions_in text) e)

all_map : {X : Type 0} (P Q : X → Type 0) (xs : List X) → ((x : X) → P x → Q x) → AllByRecursion P xs → AllByRecursion Q xs
all_map P Q [] there all = tt
all_map P Q (x ∷ xs) there (p, all) = (there x p, all_map P Q xs there all)

-- the words of a standing text are lawful over the table
pub standing_lawful : (texts : List (List ℕ)) → Book texts → (t : List ℕ) → t ∈ texts → AllByRecursion (Lawful (table texts)) (words_in t)
standing_lawful texts book t t_in =
    all_map (Lawful (declared_in t)) (Lawful (table texts)) (words_in t)
    (λ w. lawful_grown (declared_in t) (table texts) w (text_grows texts book.agreed t t_in)) (text_lawful t (book.faultless t t_in))

pub book_program : (texts : List (List ℕ)) → Book texts → Program (table texts) (words texts)
unfolding words
book_program texts book = record { few = book.few; lawful = lawful }
  where
    lawful : (w : Named) → w ∈ flat_map words_in texts → Lawful (table texts) w
    lawful w w_in =
        let (t, t_in, here) = joined_in words_in w texts w_in in
        all_in (Lawful (table texts)) w (words_in t) (standing_lawful texts book t t_in) here

-- the list of a book is a valid system
pub list_valid : ListIsValid
unfolding table
list_valid texts book =
    program_valid (table texts) (words texts) (book_program texts book) (all_distinct Short (flat_map declared_in texts) (all_short texts)) book.few_words

words_within : (ts us : List (List ℕ)) → ts ⊆ us → words ts ⊆ words us
unfolding words
words_within ts us sub = joined_within words_in ts us sub

-- the list of a book stands in that of a book with more texts
pub book_embeds : (ts us : List (List ℕ)) → Book ts → Book us → ts ⊆ us → Embeds (SameCell (table ts) (table us)) (list_of ts) (list_of us)
book_embeds ts us few many sub =
    embeds (table ts) (table us) (words ts) (words us) (book_program ts few) (book_program us many) (table_grows ts us many.agreed sub) (words_within ts us sub)

pub table_once : TableHasNamesOnce
unfolding table
table_once texts = once_distinct (flat_map declared_in texts)
