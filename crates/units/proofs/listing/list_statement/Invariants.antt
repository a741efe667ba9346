use Rattle.std.proofs.Common.{◌≡◌, ◌+◌, map, drop}
use Rattle.units.specs.Listing.{tagged, overlaid}
use Rattle.units.proofs.listing.list_statement.Given as goal

abbrev pub invariant-loop-i : goal.invariant-loop-i
invariant-loop-i g l =
    overlaid l.out ((l.from + l.k) + l.i) (map (tagged l.unit l.at) (drop l.i l.words))
    ≡ overlaid l.initial.out (l.from + l.k) (map (tagged l.unit l.at) l.words)
