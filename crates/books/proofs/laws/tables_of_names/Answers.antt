use Rattle.books.proofs.laws.tables_of_names.Goals as goal
use Rattle.books.proofs.Counts.{at_end, behind, same_sizes}
use Rattle.books.proofs.Lists.{table_once}
use Rattle.books.proofs.Legal.{names_are_short}

pub returns : goal.returns
returns c = record { at_end = at_end; behind = behind; once = table_once; short = names_are_short; any_order = same_sizes }
