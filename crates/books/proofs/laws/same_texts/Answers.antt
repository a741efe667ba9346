use Rattle.books.proofs.laws.same_texts.Goals as goal
use Rattle.books.proofs.Replies.{same_replies, more_texts}
use Rattle.books.proofs.Counts.{same_variables}

pub returns : goal.returns
returns c = record { replies = same_replies; variables = same_variables; more = more_texts }
