-- Histories: calls in their order, and what each is replied.
use Rattle.std.specs.Prelude.{◌≡◌, ℕ, ◌+◌, ◌<◌, true, List, length, take, Ok, Err, vec_items, slice_index_or}
use Rattle.engine.specs.Meanings.{Rule}
use Rattle.books.specs.Books.{SameTexts}
use Rattle.histories.specs.declared.call.Question.{Question}
use Rattle.histories.specs.declared.call.Call.{Call}
use Rattle.histories.specs.declared.call.Call.TheVariants.{Settle, Ask}
use Rattle.histories.specs.declared.call.Answer.TheVariants.{Settled}
use Rattle.host_analyser.specs.declared.refusal.Refusal.{Refusal}
use Rattle.histories.specs.declared.history.AuditReport.{AuditReport}
use Rattle.host_analyser.specs.Books.{Book, new_book}
use Rattle.histories.specs.Books.{book_from}
use Rattle.histories.specs.Says.{Reply, Says}

-- the call and the reply at a place
abbrev pub call_at : List Call → ℕ → Call
call_at cs i = slice_index_or cs i Settle

abbrev pub reply_at : List Reply → ℕ → Reply
reply_at rs i = slice_index_or rs i (Ok Settled)

-- Calls from a book on, and their replies: each reply is the one that the book of the calls before it calls for, and a
-- refused call changes nothing in the book.
pub record History (rule : Rule) (start : Book) (calls : List Call) (replies : List Reply) : Type 0 where
  pub answered : length replies ≡ length calls
  pub each : (i : ℕ) → i < length calls → Says rule (book_from rule start (take i calls)) (call_at calls i) (reply_at replies i)
  pub kept :
      (i : ℕ) (f : Refusal) → i < length calls → reply_at replies i ≡ Err f
      → book_from rule start (take (i + 1) calls) ≡ book_from rule start (take i calls)

-- the further calls are all questions
abbrev pub AllQuestions : List Call → Type 0
AllQuestions further = (i : ℕ) → i < length further → (q : Question) × (call_at further i ≡ Ask q)

-- Two histories, each from a new analyser over an engine of its own, and further calls made of both: where both end
-- settled with the same texts, under whatever numbers, every further question has the same reply.
pub record Audited (rule other_rule : Rule) (calls others further : List Call) (report : AuditReport) : Type 0 where
  pub first : History rule new_book calls (vec_items report.first)
  pub second : History other_rule new_book others (vec_items report.second)
  pub first_further : History rule (book_from rule new_book calls) further (vec_items report.first_further)
  pub second_further : History other_rule (book_from other_rule new_book others) further (vec_items report.second_further)
  pub alike :
      (book_from rule new_book calls).settled ≡ true → (book_from other_rule new_book others).settled ≡ true
      → SameTexts (book_from rule new_book calls).units (book_from other_rule new_book others).units
      → AllQuestions further → vec_items report.first_further ≡ vec_items report.second_further
