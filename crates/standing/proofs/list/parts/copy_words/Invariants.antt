use Rattle.std.proofs.Common.{◌≡◌, map, take}
use Rattle.books.specs.Listing.{word_of}
use Rattle.standing.proofs.list.parts.copy_words.Given as goal

abbrev pub invariant-loop-entry : goal.invariant-loop-entry
invariant-loop-entry l = l.words.items ≡ map word_of (take l.entry-index l.listed)
