-- Histories: calls in their order, and what each is replied.
use Rattle.std.specs.Prelude.{◌≡◌, ℕ, ◌+◌, ◌<◌, List, [], ◌∷◌, length, take, Ok, Err, vec_items, Result, slice_index_or}
use Rattle.analyser.specs.declared.Call.{Call}
use Rattle.analyser.specs.declared.Call.TheVariants.{Load, Unload}
use Rattle.analyser.specs.declared.Done.{Done}
use Rattle.analyser.specs.declared.Done.TheVariants.{Loaded, Unloaded}
use Rattle.analyser.specs.declared.history.AuditReport.{AuditReport}
use Rattle.analyser.specs.declared.refusal.Refusal.{Refusal}
use Rattle.analyser.specs.Refusals.{refused_or}
use Rattle.analyser.specs.Books.{Book, new_book, load_refusal, unload_refusal, load_book, unload_book}

-- the book after a call: from the call's arguments alone
abbrev pub next_book : Book → Call → Book
next_book b (Load u t) = load_book b u t.now
next_book b (Unload u) = unload_book b u

-- the book after some calls
abbrev pub book_from : Book → List Call → Book
book_from b [] = b
book_from b (c ∷ cs) = book_from (next_book b c) cs

-- what a call is replied
abbrev pub Reply : Type 0
Reply = Result Done Refusal

-- what is replied to a call, over the book before it
abbrev pub Says : Book → Call → Reply → Type 0
Says b (Load u t) r = r ≡ refused_or (load_refusal b u t.now) Loaded
Says b (Unload u) r = r ≡ refused_or (unload_refusal b u) Unloaded

-- the call and the reply at a place
abbrev pub call_at : List Call → ℕ → Call
call_at cs i = slice_index_or cs i (Unload 0)

abbrev pub reply_at : List Reply → ℕ → Reply
reply_at rs i = slice_index_or rs i (Ok Loaded)

-- Calls from a book on, and their replies: each reply is the one that the book of the calls before it calls for,
-- and a refused call changes nothing in the book.
pub record History (start : Book) (calls : List Call) (replies : List Reply) : Type 0 where
  pub answered : length replies ≡ length calls
  pub each : (i : ℕ) → i < length calls → Says (book_from start (take i calls)) (call_at calls i) (reply_at replies i)
  pub kept : (i : ℕ) (f : Refusal) → i < length calls → reply_at replies i ≡ Err f → book_from start (take (i + 1) calls) ≡ book_from start (take i calls)

-- two histories, each from a new analyser, and the further questions asked of both: alike where the same texts stand
pub record Audited (calls others further : List Call) (report : AuditReport) : Type 0 where
  pub first : History new_book calls (vec_items report.first)
  pub second : History new_book others (vec_items report.second)
  pub first_further : History (book_from new_book calls) further (vec_items report.first_further)
  pub second_further : History (book_from new_book others) further (vec_items report.second_further)
  pub alike : (book_from new_book calls).texts ≡ (book_from new_book others).texts → vec_items report.first_further ≡ vec_items report.second_further
