use Rattle.std.proofs.Common.{◌≡◌, ◌≤◌, length, take}
use Rattle.books.specs.Listing.{listing_from}
use Rattle.standing.specs.Knowledge.{texts_in}
use Rattle.standing.specs.Firsts.{firsts_of}
use Rattle.standing.proofs.lister.list_units.Given as goal

abbrev pub invariant-loop-unit : goal.invariant-loop-unit
invariant-loop-unit l =
    length l.initial.out ≡ 512 → length (listing_from (firsts_of l.names) 0 (texts_in l.texts)) ≤ 512
    → (l.from ≡ length (listing_from (firsts_of l.names) 0 (take l.unit (texts_in l.texts))))
    × (take l.from l.out ≡ listing_from (firsts_of l.names) 0 (take l.unit (texts_in l.texts)))
