-- Histories, one call after another.
use Rattle.std.proofs.Common.{◌≡◌, ℕ, ◌+◌, ◌<◌, ◌≤◌, List, [], ◌∷◌, ◌++◌, length, take, Some, None, Ok, Err, Option, sym, refl, ap, ◌∙◌, subst, ⊎_elim, arith}
use Rattle.std.proofs.lemmas.List.{take_more, take-append-le, take_at, get_or_append_left, get_or_at, length_push}
use Rattle.std.proofs.lemmas.Bool.{cases_order}
use Rattle.analyser.specs.declared.Call.{Call}
use Rattle.analyser.specs.declared.Call.TheVariants.{Load, Unload}
use Rattle.analyser.specs.declared.Done.{Done}
use Rattle.analyser.specs.declared.Done.TheVariants.{Loaded, Unloaded}
use Rattle.analyser.specs.declared.refusal.Refusal.{Refusal}
use Rattle.analyser.specs.Books.{Book, unless, load_refusal, unload_refusal}
use Rattle.analyser.specs.Histories.{Reply, Says, History, next_book, book_from, call_at, reply_at}
use Rattle.analyser.specs.Refusals.{refused_or}

-- where the reply is a refusal, one applied, and the book stays
stays : (o : Option Refusal) (done : Done) (f : Refusal) (new old : Book) → refused_or o done ≡ Err f → unless o new old ≡ old
stays None done f new old e = cc e
stays (Some g) done f new old e = refl

pub refused_keeps : (b : Book) (c : Call) (r : Reply) (f : Refusal) → Says b c r → r ≡ Err f → next_book b c ≡ b
refused_keeps b (Load u t) r f says refused =
    stays (load_refusal b u t.now) Loaded f _ b (sym says ∙ refused)
refused_keeps b (Unload u) r f says refused =
    stays (unload_refusal b u) Unloaded f _ b (sym says ∙ refused)

pub book_more : (b : Book) (cs : List Call) (c : Call) → book_from b (cs ++ (c ∷ [])) ≡ next_book (book_from b cs) c
book_more b [] c = refl
book_more b (d ∷ cs) c = book_more (next_book b d) cs c

-- the book after the call at a place
pub book_after : (b : Book) (cs : List Call) (i : ℕ) → i < length cs → book_from b (take (i + 1) cs) ≡ next_book (book_from b (take i cs)) (call_at cs i)
book_after b cs i h = ap (book_from b) (take_more cs i (Unload 0) h) ∙ book_more b (take i cs) (call_at cs i)

pub history_of : (b : Book) (cs : List Call) (rs : List Reply) → length rs ≡ length cs → ((i : ℕ) → i < length cs → Says (book_from b (take i cs)) (call_at cs i) (reply_at rs i)) → History b cs rs
history_of b cs rs answered each =
    record {
      answered = answered;
      each = each;
      kept = λ i f h refused. book_after b cs i h ∙ refused_keeps (book_from b (take i cs)) (call_at cs i) (reply_at rs i) f (each i h) refused;
    }

pub history_none : (b : Book) → History b [] []
history_none b = history_of b [] [] refl (λ i h. absurd (omega arith))

module _ (b : Book) (cs : List Call) (rs : List Reply) (c : Call) (r : Reply) (so_far : History b cs rs) (said : Says (book_from b cs) c r) where
  each_more : (i : ℕ) → i < length (cs ++ (c ∷ [])) → Says (book_from b (take i (cs ++ (c ∷ [])))) (call_at (cs ++ (c ∷ [])) i) (reply_at (rs ++ (r ∷ [])) i)
  each_more i h = ⊎_elim last (⊎_elim earlier (λ past. absurd (omega (arith, length_push cs c)))) (cases_order i (length cs))
    where
      earlier : i < length cs → Says (book_from b (take i (cs ++ (c ∷ [])))) (call_at (cs ++ (c ∷ [])) i) (reply_at (rs ++ (r ∷ [])) i)
      earlier k =
          let le : i ≤ length cs = omega arith in
          let kr : i < length rs = omega (arith, so_far.answered) in
          rw (take-append-le i cs (c ∷ []) le, get_or_append_left cs (c ∷ []) (Unload 0) i k, get_or_append_left rs (r ∷ []) (Ok Loaded) i kr) (so_far.each i k)

      last : i ≡ length cs → Says (book_from b (take i (cs ++ (c ∷ [])))) (call_at (cs ++ (c ∷ [])) i) (reply_at (rs ++ (r ∷ [])) i)
      last e = rw (take_at cs (c ∷ []) i (sym e), get_or_at cs c [] (Unload 0) i (sym e), get_or_at rs r [] (Ok Loaded) i (so_far.answered ∙ sym e)) said

  pub history_more : History b (cs ++ (c ∷ [])) (rs ++ (r ∷ []))
  history_more = history_of b (cs ++ (c ∷ [])) (rs ++ (r ∷ [])) (length_push rs r ∙ ap (λ n. n + 1) so_far.answered ∙ sym (length_push cs c)) each_more

-- one turn more: the call at i was made of an analyser that stands where the book of the calls before says
module _ (start : Book) (calls : List Call) (i : ℕ) (inside : i < length calls) (b : Book) (here : b ≡ book_from start (take i calls)) where
  pub turn_book : (b' : Book) → b' ≡ next_book b (call_at calls i) → b' ≡ book_from start (take (i + 1) calls)
  turn_book b' after = after ∙ ap (λ x. next_book x (call_at calls i)) here ∙ sym (book_after start calls i inside)

  pub turn_reply : (rs rs' : List Reply) (r : Reply) → rs' ≡ rs ++ (r ∷ []) → History start (take i calls) rs → Says b (call_at calls i) r → History start (take (i + 1) calls) rs'
  turn_reply rs rs' r e so_far said =
      rw (take_more calls i (Unload 0) inside, e)
      (history_more start (take i calls) rs (call_at calls i) r so_far (subst (λ x. Says x (call_at calls i) r) here said))
