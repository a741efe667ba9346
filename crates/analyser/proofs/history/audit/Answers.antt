use Rattle.analyser.specs.Books.{new_book}
use Rattle.analyser.specs.Histories.{book_from}
use Rattle.analyser.proofs.Agreement.{replies_alike}
use Rattle.analyser.proofs.history.audit.Goals as goal

pub returns : goal.returns
returns c =
    let one = c.in_ok-first.ensures in
    let other = c.in_ok-second.ensures in
    record {
      first = one.replies;
      second = other.replies;
      first_further = one.asked;
      second_further = other.asked;
      alike = λ same. replies_alike (book_from new_book c.args.calls.now) (book_from new_book c.args.others.now) c.args.further.now _ _ one.asked other.asked same;
    }
