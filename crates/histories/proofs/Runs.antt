-- Histories, one call after another.
use Rattle.std.proofs.Common.{◌≡◌, ℕ, ◌+◌, ◌<◌, ◌≤◌, Bool, true, false, cond, List, [], ◌∷◌, ◌++◌, length, take, Some, None, Ok, Err, MatchBool, Option, sym, refl, ap, ◌∙◌, subst₂, ⊎_elim, arith}
use Rattle.std.proofs.lemmas.List.{take_more, take-append-le, take_at, get_or_append_left, get_or_at, length_push}
use Rattle.std.proofs.lemmas.Bool.{cases_order}
use Rattle.engine.specs.Meanings.{Rule}
use Rattle.standing.specs.declared.refusal.UnitRefusal.{UnitRefusal}
use Rattle.standing.specs.Loads.{load_refusal, unload_refusal, unless}
use Rattle.histories.specs.declared.call.Call.{Call}
use Rattle.histories.specs.declared.call.Call.TheVariants.{Settle, Load, Unload, Ask, Targets}
use Rattle.histories.specs.declared.call.Answer.{Answer}
use Rattle.histories.specs.declared.call.Answer.TheVariants.{Settled, Loaded, Unloaded}
use Rattle.host_analyser.specs.declared.refusal.Refusal.{Refusal}
use Rattle.host_analyser.specs.declared.refusal.Refusal.TheVariants.{SettledAlready, NoRoom}
use Rattle.host_analyser.specs.declared.refusal.RoomFault.{RoomFault}
use Rattle.host_analyser.specs.Books.{Book, new_book, book_list}
use Rattle.histories.specs.Books.{next_book, book_from}
use Rattle.host_analyser.specs.Replies.{OutOfRoom}
use Rattle.histories.specs.Says.{Reply, Says, refused_or}
use Rattle.histories.specs.Histories.{History, call_at, reply_at}

-- where the reply is a refusal, one applied, and the book stays
stays : (o : Option UnitRefusal) (done : Answer) (f : Refusal) (new old : Book) → refused_or o done ≡ Err f → unless o new old ≡ old
stays None done f new old e = cc e
stays (Some g) done f new old e = refl

-- a settle that is refused finds the book settled, or a list that does not fit
settle_stays : (s fits : Bool) (rule : Rule) (b : Book) (r : Reply) (f : Refusal) → b.settled ≡ s
    → MatchBool s (r ≡ Err SettledAlready) (MatchBool fits (r ≡ Ok Settled) ((x : RoomFault) × (r ≡ Err (NoRoom x)) × OutOfRoom rule b x)) → r ≡ Err f
    → cond fits (record { units = b.units; settled = true }) b ≡ b
settle_stays true true rule b r f e says refused = ap (λ s. record { units = b.units; settled = s }) (sym e)
settle_stays true false rule b r f e says refused = refl
settle_stays false true rule b r f e says refused = cc (says, refused)
settle_stays false false rule b r f e says refused = refl

pub refused_keeps : (rule : Rule) (b : Book) (c : Call) (r : Reply) (f : Refusal) → Says rule b c r → r ≡ Err f → next_book rule b c ≡ b
refused_keeps rule b Settle r f says refused = settle_stays b.settled (rule.fits (book_list b)) rule b r f refl says refused
refused_keeps rule b (Load u t) r f says refused =
    stays (load_refusal b.units u t.now) Loaded f _ b (sym says ∙ refused)
refused_keeps rule b (Unload u) r f says refused =
    stays (unload_refusal b.units u) Unloaded f _ b (sym says ∙ refused)
refused_keeps rule b (Ask q) r f says refused = refl
refused_keeps rule b (Targets u i buffer) r f says refused = refl

module _ (rule : Rule) where
  pub book_more : (b : Book) (cs : List Call) (c : Call) → book_from rule b (cs ++ (c ∷ [])) ≡ next_book rule (book_from rule b cs) c
  book_more b [] c = refl
  book_more b (d ∷ cs) c = book_more (next_book rule b d) cs c

  -- the book after the call at a place
  pub book_after : (b : Book) (cs : List Call) (i : ℕ) → i < length cs → book_from rule b (take (i + 1) cs) ≡ next_book rule (book_from rule b (take i cs)) (call_at cs i)
  book_after b cs i h = ap (book_from rule b) (take_more cs i Settle h) ∙ book_more b (take i cs) (call_at cs i)

  pub history_of : (b : Book) (cs : List Call) (rs : List Reply) → length rs ≡ length cs
      → ((i : ℕ) → i < length cs → Says rule (book_from rule b (take i cs)) (call_at cs i) (reply_at rs i)) → History rule b cs rs
  history_of b cs rs answered each =
      record {
        answered = answered;
        each = each;
        kept = λ i f h refused. book_after b cs i h ∙ refused_keeps rule (book_from rule b (take i cs)) (call_at cs i) (reply_at rs i) f (each i h) refused;
      }

  pub history_none : (b : Book) → History rule b [] []
  history_none b = history_of b [] [] refl (λ i h. absurd (omega arith))

  module _ (b : Book) (cs : List Call) (rs : List Reply) (c : Call) (r : Reply) (so_far : History rule b cs rs) (said : Says rule (book_from rule b cs) c r) where
    each_more : (i : ℕ) → i < length (cs ++ (c ∷ [])) → Says rule (book_from rule b (take i (cs ++ (c ∷ [])))) (call_at (cs ++ (c ∷ [])) i) (reply_at (rs ++ (r ∷ [])) i)
    each_more i h = ⊎_elim last (⊎_elim earlier (λ past. absurd (omega (arith, length_push cs c)))) (cases_order i (length cs))
      where
        earlier : i < length cs → Says rule (book_from rule b (take i (cs ++ (c ∷ [])))) (call_at (cs ++ (c ∷ [])) i) (reply_at (rs ++ (r ∷ [])) i)
        earlier k =
            let le : i ≤ length cs = omega arith in
            let kr : i < length rs = omega (arith, so_far.answered) in
            rw (take-append-le i cs (c ∷ []) le, get_or_append_left cs (c ∷ []) Settle i k, get_or_append_left rs (r ∷ []) (Ok Settled) i kr) (so_far.each i k)

        last : i ≡ length cs → Says rule (book_from rule b (take i (cs ++ (c ∷ [])))) (call_at (cs ++ (c ∷ [])) i) (reply_at (rs ++ (r ∷ [])) i)
        last e = rw (take_at cs (c ∷ []) i (sym e), get_or_at cs c [] Settle i (sym e), get_or_at rs r [] (Ok Settled) i (so_far.answered ∙ sym e)) said

    pub history_more : History rule b (cs ++ (c ∷ [])) (rs ++ (r ∷ []))
    history_more = history_of b (cs ++ (c ∷ [])) (rs ++ (r ∷ [])) (length_push rs r ∙ ap (λ n. n + 1) so_far.answered ∙ sym (length_push cs c)) each_more

  -- one turn more: the call at i was made of an analyser that stands where the book of the calls before says
  module _ (start : Book) (calls : List Call) (i : ℕ) (inside : i < length calls) (here_rule : Rule) (same : here_rule ≡ rule) (b : Book) (here : b ≡ book_from rule start (take i calls)) where
    pub turn_book : (b' : Book) → b' ≡ next_book here_rule b (call_at calls i) → b' ≡ book_from rule start (take (i + 1) calls)
    turn_book b' after =
        after
        ∙ ap (λ x. next_book x b (call_at calls i)) same
        ∙ ap (λ x. next_book rule x (call_at calls i)) here
        ∙ sym (book_after start calls i inside)

    pub turn_reply : (rs rs' : List Reply) (r : Reply) → rs' ≡ rs ++ (r ∷ []) → History rule start (take i calls) rs → Says here_rule b (call_at calls i) r → History rule start (take (i + 1) calls) rs'
    turn_reply rs rs' r e so_far said =
        rw (take_more calls i Settle inside, e)
        (history_more start (take i calls) rs (call_at calls i) r so_far (subst₂ (λ x y. Says x y (call_at calls i) r) same here said))

-- a new analyser over an engine with this rule, after a history and then after further calls
pub replayed : (rule start_rule end_rule : Rule) (start end : Book) (calls further : List Call) (rs fs : List Reply) → start_rule ≡ rule → start ≡ new_book
    → History start_rule start calls rs → end ≡ book_from start_rule start calls → end_rule ≡ start_rule → History end_rule end further fs
    → History rule new_book calls rs × History rule (book_from rule new_book calls) further fs
replayed rule start_rule end_rule start end calls further rs fs same new so_far after kept more = (
  subst₂ (λ x b. History x b calls rs) same new so_far,
  subst₂ (λ x b. History x b further fs) (kept ∙ same) (after ∙ ap (λ x. book_from x start calls) same ∙ ap (λ b. book_from rule b calls) new) more,
)
