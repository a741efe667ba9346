use Rattle.books.proofs.laws.solutions_of_texts.Goals as goal
use Rattle.books.proofs.Lists.{list_valid}
use Rattle.books.proofs.Solutions.{points_in_every, alias_in_every, targets_in_every}
use Rattle.books.proofs.Targets.{targets_rise}
use Rattle.books.proofs.Replies.{known_is_within}
use Rattle.books.proofs.Pointers.{pointers_within}

pub returns : goal.returns
returns c = record { valid = list_valid; points = points_in_every; alias = alias_in_every; targets = targets_in_every; rising = targets_rise; known = known_is_within; pointers = pointers_within }
