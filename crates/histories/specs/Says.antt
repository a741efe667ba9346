-- What each call of a history is replied, over the book before it.
use Rattle.std.specs.Prelude.{◌≡◌, ℕ, Bool, T, ◌↔◌, List, ◌++◌, map, length, drop, Some, None, Ok, Err, vec_items, Decides, MatchBool, Option, Result, nat_lt}
use Rattle.std.specs.List.{flat_map}
use Rattle.units.specs.Words.{Cell}
use Rattle.engine.specs.Meanings.{Rule}
use Rattle.books.specs.Members.{◌∈◌}
use Rattle.books.specs.Tables.{Within, slot, first_of}
use Rattle.books.specs.Books.{table}
use Rattle.books.specs.Replies.{place_among, name_in}
use Rattle.books.specs.Solutions.{NamedRows, SolutionOf}
use Rattle.books.specs.Targets.{Rising, line}
use Rattle.standing.specs.declared.refusal.UnitRefusal.{UnitRefusal}
use Rattle.standing.specs.Loads.{load_refusal, unload_refusal}
use Rattle.standing.specs.Calls.{call_refusal, call_pointer}
use Rattle.host_analyser.specs.declared.refusal.Refusal.{Refusal}
use Rattle.host_analyser.specs.declared.refusal.Refusal.TheVariants.{Unit as OfUnit, NotSettled, NoPlace, Unknown, BufferTooShort}
use Rattle.host_analyser.specs.Books.{Book, texts_of}
use Rattle.host_analyser.specs.Replies.{SettleSays}
use Rattle.histories.specs.declared.call.Question.{Question}
use Rattle.histories.specs.declared.call.Question.TheVariants.{Points, Alias}
use Rattle.histories.specs.declared.call.Call.{Call}
use Rattle.histories.specs.declared.call.Call.TheVariants.{Settle, Load, Unload, Ask, Targets}
use Rattle.histories.specs.declared.call.Answer.{Answer}
use Rattle.histories.specs.declared.call.Answer.TheVariants.{Settled, Loaded, Unloaded, Whether, Listed}

-- what a call is replied
abbrev pub Reply : Type 0
Reply = Result Answer Refusal

-- refused for the reason that applies, or else answered
abbrev pub refused_or : Option UnitRefusal → Answer → Reply
refused_or None answer = Ok answer
refused_or (Some f) answer = Err (OfUnit f)

-- a question's result as a reply
abbrev pub answer_of : Result Bool Refusal → Reply
answer_of (Ok yes_or_no) = Ok (Whether yes_or_no)
answer_of (Err f) = Err f

-- every solution of the texts makes it true
abbrev pub InEverySolution : List (List ℕ) → (NamedRows → Type 0) → Type 0
InEverySolution texts P = (R : NamedRows) → SolutionOf texts R → P R

-- an answer that is yes exactly when the fact holds
abbrev pub SaysWhether : Reply → Type 0 → Type 0
SaysWhether r fact = (yes : Bool) × (r ≡ Ok (Whether yes)) × Decides yes fact

-- the place and the name that a question is about
abbrev pub PointsSays : List (List ℕ) → Option Cell → Option (List ℕ) → Reply → Type 0
PointsSays texts None n r = r ≡ Err NoPlace
PointsSays texts (Some c) None r = r ≡ Err Unknown
PointsSays texts (Some c) (Some n) r = SaysWhether r (InEverySolution texts (λ R. T (R c n)))

abbrev pub AliasSays : List (List ℕ) → Option Cell → Option Cell → Reply → Type 0
AliasSays texts None d r = r ≡ Err NoPlace
AliasSays texts (Some c) None r = r ≡ Err Unknown
AliasSays texts (Some c) (Some d) r = SaysWhether r (InEverySolution texts (λ R. (n : List ℕ) × T (R c n) × T (R d n)))

abbrev pub QuestionSays : List (List ℕ) → Question → Reply → Type 0
QuestionSays texts (Points p n) r = PointsSays texts (place_among texts p.now) (name_in texts n.now) r
QuestionSays texts (Alias p q) r = AliasSays texts (place_among texts p.now) (place_among texts q.now) r

-- an answer is yes exactly when every solution of the standing units makes it true
abbrev pub Answers : Book → Question → Reply → Type 0
Answers b q r = MatchBool b.settled (QuestionSays (texts_of b) q r) (r ≡ Err NotSettled)

-- a target list's reply, and what the buffer then holds
abbrev pub RepliesWith : Reply → Result ℕ Refusal → List ℕ → Type 0
RepliesWith (Ok Settled) outcome buffer = ⊥
RepliesWith (Ok Loaded) outcome buffer = ⊥
RepliesWith (Ok Unloaded) outcome buffer = ⊥
RepliesWith (Ok (Whether yes_or_no)) outcome buffer = ⊥
RepliesWith (Err f) outcome buffer = ⊥
RepliesWith (Ok (Listed o v)) outcome buffer = (o ≡ outcome) × (vec_items v ≡ buffer)

-- Exactly the functions that every solution gives the pointer, by rising object, each followed by byte 10. The rest of
-- the buffer stays, and all of it where the list is longer.
pub record ListsTargets (texts : List (List ℕ)) (pointer : Cell) (buffer : List ℕ) (r : Reply) : Type 0 where
  pub names : List (List ℕ)
  pub exactly : (n : List ℕ) → (n ∈ names) ↔ (Within (table texts) (slot n 1) × InEverySolution texts (λ R. T (R pointer n)))
  pub rising : Rising (map (first_of (table texts)) names)
  pub replied :
      let bytes = flat_map line names in
      MatchBool (nat_lt (length buffer) (length bytes)) (RepliesWith r (Err BufferTooShort) buffer)
      (RepliesWith r (Ok (length bytes)) (bytes ++ drop (length bytes) buffer))

abbrev pub PointerSays : Book → Option UnitRefusal → Option Cell → List ℕ → Reply → Type 0
PointerSays b (Some f) c buffer r = RepliesWith r (Err (OfUnit f)) buffer
PointerSays b None None buffer r = ⊥
PointerSays b None (Some c) buffer r = ListsTargets (texts_of b) c buffer r

abbrev pub TargetsSays : Book → ℕ → ℕ → List ℕ → Reply → Type 0
TargetsSays b u i buffer r =
    MatchBool b.settled (PointerSays b (call_refusal b.units u i) (call_pointer b.units u i) buffer r) (RepliesWith r (Err NotSettled) buffer)

-- what is replied to a call, over the book before it
abbrev pub Says : Rule → Book → Call → Reply → Type 0
Says rule b Settle r = SettleSays (Ok Settled) Err rule b r
Says rule b (Load u t) r = r ≡ refused_or (load_refusal b.units u t.now) Loaded
Says rule b (Unload u) r = r ≡ refused_or (unload_refusal b.units u) Unloaded
Says rule b (Ask q) r = Answers b q r
Says rule b (Targets u i buffer) r = TargetsSays b u i buffer.now r
