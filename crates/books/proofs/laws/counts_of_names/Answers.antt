use Rattle.books.proofs.laws.counts_of_names.Goals as goal
use Rattle.books.proofs.Loads.{load_adds, unload_takes}
use Rattle.books.proofs.Counts.{load_grows, unload_shrinks, declared_while, clash_by_counts}

pub returns : goal.returns
returns c = record { load = load_adds; load_table = load_grows; unload = unload_takes; unload_table = unload_shrinks; declared = declared_while; clash = clash_by_counts }
