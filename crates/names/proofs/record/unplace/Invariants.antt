use Rattle.std.proofs.Common.{◌≡◌, ℕ, ◌≤◌, map, take, get_or}
use Rattle.names.specs.declared.record.NameRecord.{NameRecord}
use Rattle.names.specs.Notes.{unplaced}
use Rattle.names.proofs.record.unplace.Given as goal

abbrev pub invariant-loop-known : goal.invariant-loop-known
invariant-loop-known l =
    record {
      done : take l.known-index l.known-items ≡ map unplaced (take l.known-index l.fn.records);
      rest : (j : ℕ) (d : NameRecord) → l.known-index ≤ j → get_or l.known-items j d ≡ get_or l.fn.records j d;
    }
