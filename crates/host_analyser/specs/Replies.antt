-- What the calls of an analyser are replied, over the book before them.
use Rattle.std.specs.Prelude.{◌≡◌, ℕ, ◌<◌, Bool, cond, List, [], ◌++◌, length, drop, Some, None, Ok, Err, MatchBool, Option, Result, nat_lt, slice_index_or}
use Rattle.lexemes.specs.Lines.{line_of}
use Rattle.units.specs.Words.{Cell}
use Rattle.units.specs.declared.listing.ListedWord.{ListedWord}
use Rattle.constraints.specs.Rows.{total}
use Rattle.constraints.specs.Least.{least}
use Rattle.engine.specs.Meanings.{Rule, Overflows}
use Rattle.engine.specs.declared.fault.EngineFault.TheVariants.{NoRoom as NoRoomBelow}
use Rattle.engine.specs.declared.fault.Overflow.{Overflow}
use Rattle.books.specs.Books.{table, row}
use Rattle.books.specs.Listing.{origin}
use Rattle.books.specs.Replies.{points, alias}
use Rattle.books.specs.Targets.{targets}
use Rattle.standing.specs.declared.refusal.UnitRefusal.{UnitRefusal}
use Rattle.standing.specs.Calls.{call_refusal, call_pointer}
use Rattle.host_analyser.specs.declared.refusal.Refusal.{Refusal}
use Rattle.host_analyser.specs.declared.refusal.Refusal.TheVariants.{Unit as OfUnit, SettledAlready, NoRoom, NotSettled, NoPlace, Unknown, BufferTooShort}
use Rattle.host_analyser.specs.declared.refusal.RoomFault.{RoomFault}
use Rattle.host_analyser.specs.Books.{Book, texts_of, book_list}

-- refused for the reason that applies, or else done
abbrev pub result_of : Option UnitRefusal → Result (Unit {0}) Refusal
result_of None = Ok tt
result_of (Some f) = Err (OfUnit f)

-- what the smallest solution answers
abbrev pub points_reply : Book → List ℕ → List ℕ → Result Bool Refusal
points_reply b p n = cond b.settled (points NoPlace Unknown (texts_of b) p n) (Err NotSettled)

abbrev pub alias_reply : Book → List ℕ → List ℕ → Result Bool Refusal
alias_reply b p q = cond b.settled (alias NoPlace Unknown (texts_of b) p q) (Err NotSettled)

-- the bytes of a pointer's target list, by the smallest solution
abbrev pub listing_of : Book → Option Cell → List ℕ
listing_of b None = []
listing_of b (Some c) = targets (table (texts_of b)) (row (texts_of b) c)

abbrev pub target_bytes : Book → ℕ → ℕ → List ℕ
target_bytes b u i = listing_of b (call_pointer b.units u i)

abbrev pub pointer_or_refused : Option UnitRefusal → Result ℕ Refusal → Result ℕ Refusal
pointer_or_refused None r = r
pointer_or_refused (Some f) r = Err (OfUnit f)

abbrev pub targets_reply : Book → ℕ → ℕ → List ℕ → Result ℕ Refusal
targets_reply b u i buffer =
    cond b.settled
    (pointer_or_refused (call_refusal b.units u i)
    (cond (nat_lt (length buffer) (length (target_bytes b u i))) (Err BufferTooShort) (Ok (length (target_bytes b u i)))))
    (Err NotSettled)

-- a buffer changes only by an answered call
abbrev pub after_reply : Result ℕ Refusal → List ℕ → List ℕ → List ℕ
after_reply (Ok n) bytes buffer = bytes ++ drop (length bytes) buffer
after_reply (Err f) bytes buffer = buffer

abbrev pub targets_buffer : Book → ℕ → ℕ → List ℕ → List ℕ
targets_buffer b u i buffer = after_reply (targets_reply b u i buffer) (target_bytes b u i) buffer

-- No room: the list does not fit, its smallest solution has more pairs than the room, and the refusal carries the
-- engine's fault whole, with the unit and the line of the statement whose word it names.
pub record OutOfRoom (rule : Rule) (b : Book) (f : RoomFault) : Type 0 where
  pub overflow : Overflow
  pub word : ListedWord
  pub text : List ℕ
  pub overflows : Overflows rule (book_list b) overflow
  pub crowded : rule.room < total (least (book_list b))
  pub named : origin b.units overflow.position ≡ Some word
  pub stands : slice_index_or b.units word.unit None ≡ Some text
  pub carried : f ≡ record { unit = word.unit; line = line_of text word.at; fault = NoRoomBelow overflow }

-- Settle fails for room exactly when the list of the standing units does not fit the engine. `done` is the reply to a
-- settle that is accepted, `refused` that to one that is not.
abbrev pub SettleSays : {R : Type 0} → R → (Refusal → R) → Rule → Book → R → Type 0
SettleSays done refused rule b r =
    MatchBool b.settled (r ≡ refused SettledAlready)
    (MatchBool (rule.fits (book_list b)) (r ≡ done) ((f : RoomFault) × (r ≡ refused (NoRoom f)) × OutOfRoom rule b f))

abbrev pub SettleResult : Rule → Book → Result (Unit {0}) Refusal → Type 0
SettleResult rule b r = SettleSays (Ok tt) Err rule b r
