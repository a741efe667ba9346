-- A reply from the smallest solution is one about every solution, and the other way round.
use Rattle.std.proofs.Common.{◌≡◌, ℕ, Bool, true, false, cond, T, ◌↔◌, List, Some, None, Ok, Err, Decides, MatchBool, Option, Result, sym, refl, ap, ◌∙◌, arith}
use Rattle.units.specs.Words.{Cell}
use Rattle.books.specs.Books.{SameTexts, Book as Lawful}
use Rattle.books.specs.Replies.{place_among, name_in, has_object, shares, asked, points, alias}
use Rattle.books.proofs.Replies.{known_is_within, same_points, same_alias}
use Rattle.books.proofs.Solutions.{points_in_every, alias_in_every}
use Rattle.books.proofs.Units.{texts_within}
use Rattle.histories.specs.declared.call.Question.{Question}
use Rattle.histories.specs.declared.call.Question.TheVariants.{Points, Alias}
use Rattle.histories.specs.declared.call.Answer.TheVariants.{Whether}
use Rattle.host_analyser.specs.declared.refusal.Refusal.{Refusal}
use Rattle.host_analyser.specs.declared.refusal.Refusal.TheVariants.{NotSettled, NoPlace, Unknown}
use Rattle.host_analyser.specs.Books.{Book, texts_of}
use Rattle.histories.specs.Says.{Reply, Answers, QuestionSays, PointsSays, AliasSays, answer_of}

decided : (b : Bool) (P : Type 0) → T b ↔ P → Decides b P
decided true P (there, back) = (λ e. there tt, λ p. refl)
decided false P (there, back) = (λ e. absurd (no_truth e), λ p. absurd (back p))
  where
    no_truth : ◌≡◌ {A = Bool} false true → ⊥
    no_truth e = let z : ◌≡◌ {A = ℕ} 0 1 = cc e in absurd (omega arith)

-- one fact has one answer
settled_by : (b c : Bool) (P : Type 0) → Decides b P → T c ↔ P → b ≡ c
settled_by true true P d iff = refl
settled_by false false P d iff = refl
settled_by true false P (is, _) (_, back) = absurd (back (is refl))
settled_by false true P (_, must) (there, _) = must (there tt)

-- what the smallest solution answers
abbrev pub least_answer : List (List ℕ) → Question → Result Bool Refusal
least_answer texts (Points p n) = points NoPlace Unknown texts p.now n.now
least_answer texts (Alias p q) = alias NoPlace Unknown texts p.now q.now

module _ (texts : List (List ℕ)) (lawful : Lawful texts) where
  points_say : (p n : List ℕ) (o : Option Cell) → place_among texts p ≡ o → (m : Option (List ℕ)) → name_in texts n ≡ m → (r : Reply)
      → r ≡ answer_of (asked NoPlace o (λ c. asked Unknown m (λ k. Ok (has_object texts c k)))) → PointsSays texts o m r
  points_say p n None e m f r is = is
  points_say p n (Some c) e None f r is = is
  points_say p n (Some c) e (Some k) f r is =
      (has_object texts c k, is, decided (has_object texts c k) _ (points_in_every texts lawful c k ((known_is_within texts p).0 c e) ((known_is_within texts n).1 k f)))

  alias_say : (p q : List ℕ) (o : Option Cell) → place_among texts p ≡ o → (m : Option Cell) → place_among texts q ≡ m → (r : Reply)
      → r ≡ answer_of (asked NoPlace o (λ c. asked Unknown m (λ d. Ok (shares texts c d)))) → AliasSays texts o m r
  alias_say p q None e m f r is = is
  alias_say p q (Some c) e None f r is = is
  alias_say p q (Some c) e (Some d) f r is =
      (shares texts c d, is, decided (shares texts c d) _ (alias_in_every texts lawful c d ((known_is_within texts p).0 c e) ((known_is_within texts q).0 d f)))

  pub question_says : (q : Question) (r : Reply) → r ≡ answer_of (least_answer texts q) → QuestionSays texts q r
  question_says (Points p n) r is = points_say p.now n.now (place_among texts p.now) refl (name_in texts n.now) refl r is
  question_says (Alias p q) r is = alias_say p.now q.now (place_among texts p.now) refl (place_among texts q.now) refl r is

  points_said : (p n : List ℕ) (o : Option Cell) → place_among texts p ≡ o → (m : Option (List ℕ)) → name_in texts n ≡ m → (r : Reply)
      → PointsSays texts o m r → r ≡ answer_of (asked NoPlace o (λ c. asked Unknown m (λ k. Ok (has_object texts c k))))
  points_said p n None e m f r is = is
  points_said p n (Some c) e None f r is = is
  points_said p n (Some c) e (Some k) f r (b, is, d) =
      is ∙ ap (λ x. Ok (Whether x)) (settled_by b (has_object texts c k) _ d (points_in_every texts lawful c k ((known_is_within texts p).0 c e) ((known_is_within texts n).1 k f)))

  alias_said : (p q : List ℕ) (o : Option Cell) → place_among texts p ≡ o → (m : Option Cell) → place_among texts q ≡ m → (r : Reply)
      → AliasSays texts o m r → r ≡ answer_of (asked NoPlace o (λ c. asked Unknown m (λ d. Ok (shares texts c d))))
  alias_said p q None e m f r is = is
  alias_said p q (Some c) e None f r is = is
  alias_said p q (Some c) e (Some d) f r (b, is, dec) =
      is ∙ ap (λ x. Ok (Whether x)) (settled_by b (shares texts c d) _ dec (alias_in_every texts lawful c d ((known_is_within texts p).0 c e) ((known_is_within texts q).0 d f)))

  pub question_said : (q : Question) (r : Reply) → QuestionSays texts q r → r ≡ answer_of (least_answer texts q)
  question_said (Points p n) r says = points_said p.now n.now (place_among texts p.now) refl (name_in texts n.now) refl r says
  question_said (Alias p q) r says = alias_said p.now q.now (place_among texts p.now) refl (place_among texts q.now) refl r says

-- a reply by the smallest solution, or the refusal of an analyser that is not settled
pub answers_by : (b : Book) → (b.settled ≡ true → Lawful (texts_of b)) → (q : Question) (r : Reply)
    → r ≡ answer_of (cond b.settled (least_answer (texts_of b) q) (Err NotSettled)) → Answers b q r
answers_by b lawful q r is = go b.settled refl is
  where
    go : (s : Bool) → b.settled ≡ s → r ≡ answer_of (cond s (least_answer (texts_of b) q) (Err NotSettled))
        → MatchBool s (QuestionSays (texts_of b) q r) (r ≡ Err NotSettled)
    go true e is = question_says (texts_of b) (lawful e) q r is
    go false e is = is

once_settled : (texts : List (List ℕ)) (q : Question) (r : Reply) (x : Bool) → x ≡ true → MatchBool x (QuestionSays texts q r) (r ≡ Err NotSettled) → QuestionSays texts q r
once_settled texts q r true e says = says
once_settled texts q r false e says = cc e

-- two settled books with the same texts answer a question alike
module _ (b c : Book) (one : Lawful (texts_of b)) (other : Lawful (texts_of c)) (b_settled : b.settled ≡ true) (c_settled : c.settled ≡ true) (same : SameTexts b.units c.units) where
  same_answer : (q : Question) → least_answer (texts_of b) q ≡ least_answer (texts_of c) q
  same_answer (Points p n) =
      same_points (texts_of b) (texts_of c) one other (texts_within b.units c.units same.0) (texts_within c.units b.units same.1) NoPlace Unknown p.now n.now
  same_answer (Alias p q) =
      same_alias (texts_of b) (texts_of c) one other (texts_within b.units c.units same.0) (texts_within c.units b.units same.1) NoPlace Unknown p.now q.now

  pub answers_alike : (q : Question) (r s : Reply) → Answers b q r → Answers c q s → r ≡ s
  answers_alike q r s p t =
      question_said (texts_of b) one q r (once_settled (texts_of b) q r b.settled b_settled p)
      ∙ ap answer_of (same_answer q)
      ∙ sym (question_said (texts_of c) other q s (once_settled (texts_of c) q s c.settled c_settled t))
