use Rattle.std.proofs.Common.{◌≡◌, ℕ, ◌<◌, ◌≤◌, take, get_or}
use Rattle.names.specs.declared.record.NameRecord.{NameRecord}
use Rattle.names.specs.Notes.{standing, Rewritten}
use Rattle.names.specs.Held.{held}
use Rattle.names.proofs.table.NameTable.sweep.Given as goal

abbrev pub invariant-loop-i : goal.invariant-loop-i
invariant-loop-i l =
    record {
      within : l.self.used ≤ l.i;
      done : Rewritten (take l.i (held l.fn.self)) (held l.self) standing;
      rest : (j : ℕ) (d : NameRecord) → l.i ≤ j → j < l.used → get_or l.self.records j d ≡ get_or l.fn.self.records j d;
    }
