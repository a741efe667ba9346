use Rattle.std.proofs.Common.{◌≡◌, take}
use Rattle.units.specs.Listing.{overlaid}
use Rattle.host_analyser.proofs.listing.put_line.Given as goal

-- the first k bytes are written
abbrev pub invariant-loop-k : goal.invariant-loop-k
invariant-loop-k l = l.out ≡ overlaid l.initial.out l.n (take l.k l.short)
