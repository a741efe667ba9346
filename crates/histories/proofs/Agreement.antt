-- Questions asked of two settled analysers with the same texts.
use Rattle.std.proofs.Common.{◌≡◌, ℕ, zero, suc, ◌+◌, ◌<◌, true, List, length, take, Ok, sym, refl, ap, ◌∙◌, subst₂, arith}
use Rattle.std.proofs.lemmas.List.{ext_get_or}
use Rattle.engine.specs.Meanings.{Rule}
use Rattle.books.specs.Books.{SameTexts, Book as Lawful}
use Rattle.histories.specs.declared.call.Question.{Question}
use Rattle.histories.specs.declared.call.Call.{Call}
use Rattle.histories.specs.declared.call.Call.TheVariants.{Ask}
use Rattle.histories.specs.declared.call.Answer.TheVariants.{Settled}
use Rattle.host_analyser.specs.Books.{Book, texts_of}
use Rattle.histories.specs.Books.{book_from, next_book}
use Rattle.histories.specs.Says.{Reply, Says, Answers}
use Rattle.histories.specs.Histories.{History, AllQuestions, call_at, reply_at}
use Rattle.histories.proofs.Answered.{answers_alike}
use Rattle.histories.proofs.Runs.{book_after}

-- questions leave the book
module _ (rule : Rule) (b : Book) (further : List Call) (questions : AllQuestions further) where
  still : (i : ℕ) → i < length further → book_from rule b (take i further) ≡ b
  still zero h = refl
  still (suc i) h =
      let k : i < length further = omega arith in
      let (q, is) = questions i k in
      let e : suc i ≡ i + 1 = omega arith in
      ap (λ n. book_from rule b (take n further)) e
      ∙ book_after rule b further i k
      ∙ ap (next_book rule (book_from rule b (take i further))) is
      ∙ still i k

  pub answer_to : (rs : List Reply) → History rule b further rs → (i : ℕ) → i < length further → (q : Question) → call_at further i ≡ Ask q → Answers b q (reply_at rs i)
  answer_to rs history i h q is = subst₂ (λ x c. Says rule x c (reply_at rs i)) (still i h) is (history.each i h)

pub questions_alike : (rule other_rule : Rule) (b c : Book) → Lawful (texts_of b) → Lawful (texts_of c) → (further : List Call) → AllQuestions further
    → (rs ss : List Reply) → History rule b further rs → History other_rule c further ss → b.settled ≡ true → c.settled ≡ true
    → SameTexts b.units c.units → rs ≡ ss
questions_alike rule other_rule b c one other further questions rs ss first second b_settled c_settled same =
    ext_get_or (Ok Settled) rs ss (first.answered ∙ sym second.answered)
    (λ i h. let k : i < length further = omega (arith, first.answered) in
    let (q, is) = questions i k in
    answers_alike b c one other b_settled c_settled same q (reply_at rs i) (reply_at ss i)
    (answer_to rule b further questions rs first i k q is) (answer_to other_rule c further questions ss second i k q is))
