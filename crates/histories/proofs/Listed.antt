-- A target list by the smallest solution is one about every solution.
use Rattle.std.proofs.Common.{◌≡◌, ℕ, Bool, true, false, cond, ltb, List, ◌++◌, length, drop, Some, None, Ok, Err, MatchBool, Option, Result, refl}
use Rattle.std.specs.List.{flat_map}
use Rattle.units.specs.Words.{Cell}
use Rattle.books.specs.Books.{table, row, Book as Lawful}
use Rattle.books.specs.Targets.{targets, functions, line}
use Rattle.books.proofs.Lists.{table_once}
use Rattle.books.proofs.Solutions.{targets_in_every}
use Rattle.books.proofs.Targets.{targets_rise}
use Rattle.standing.specs.declared.refusal.UnitRefusal.{UnitRefusal}
use Rattle.standing.specs.Calls.{call_refusal, call_pointer}
use Rattle.host_analyser.specs.declared.refusal.Refusal.{Refusal}
use Rattle.host_analyser.specs.declared.refusal.Refusal.TheVariants.{NotSettled, BufferTooShort}
use Rattle.host_analyser.specs.Books.{Book, texts_of}
use Rattle.host_analyser.specs.Replies.{listing_of, pointer_or_refused, after_reply, targets_reply, targets_buffer}
use Rattle.host_analyser.proofs.Targeted.{has_pointer, pointer_within}
use Rattle.histories.specs.Says.{Reply, RepliesWith, ListsTargets, PointerSays, TargetsSays}

module _ (b : Book) (lawful : b.settled ≡ true → Lawful (texts_of b)) (u i : ℕ) (buffer : List ℕ) (r : Reply) where
  replied_by : (long : Bool) (bytes : List ℕ)
      → (let reply : Result ℕ Refusal = cond long (Err BufferTooShort) (Ok (length bytes)) in RepliesWith r reply (after_reply reply bytes buffer))
      → MatchBool long (RepliesWith r (Err BufferTooShort) buffer) (RepliesWith r (Ok (length bytes)) (bytes ++ drop (length bytes) buffer))
  replied_by true bytes says = says
  replied_by false bytes says = says

  listed_for : Lawful (texts_of b) → (c : Cell) → call_pointer b.units u i ≡ Some c
      → (let bytes = targets (table (texts_of b)) (row (texts_of b) c) in
      let reply : Result ℕ Refusal = cond (ltb (length buffer) (length bytes)) (Err BufferTooShort) (Ok (length bytes)) in
      RepliesWith r reply (after_reply reply bytes buffer))
      → ListsTargets (texts_of b) c buffer r
  unfolding targets
  listed_for keeps c is says =
      let texts = texts_of b in
      let names = functions (table texts) (row texts c) in
      record {
        names = names;
        exactly = λ n. targets_in_every texts keeps c n (pointer_within b.units keeps u i c is);
        rising = targets_rise (table texts) (table_once texts) (row texts c);
        replied = replied_by (ltb (length buffer) (length (flat_map line names))) (flat_map line names) says;
      }

  pub targets_say : RepliesWith r (targets_reply b u i buffer) (targets_buffer b u i buffer) → TargetsSays b u i buffer r
  targets_say says = go b.settled refl (call_refusal b.units u i) refl (call_pointer b.units u i) refl says
    where
      go : (s : Bool) → b.settled ≡ s → (o : Option UnitRefusal) → call_refusal b.units u i ≡ o → (p : Option Cell) → call_pointer b.units u i ≡ p
          → (let bytes = listing_of b p in
          let reply : Result ℕ Refusal =
          cond s (pointer_or_refused o (cond (ltb (length buffer) (length bytes)) (Err BufferTooShort) (Ok (length bytes)))) (Err NotSettled) in
          RepliesWith r reply (after_reply reply bytes buffer))
          → MatchBool s (PointerSays b o p buffer r) (RepliesWith r (Err NotSettled) buffer)
      go false is o e p f says = says
      go true is (Some x) e p f says = says
      go true is None e None f says = let (c, some) = has_pointer b.units u i e in cc (f, some)
      go true is None e (Some c) f says = listed_for (lawful is) c f says
