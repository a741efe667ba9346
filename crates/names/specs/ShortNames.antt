-- Names in fixed memory.
use Rattle.std.specs.Prelude.{ℕ, List, take}
use Rattle.names.specs.declared.short_name.ShortName.{ShortName}

abbrev pub bytes_in : ShortName → List ℕ
bytes_in n = take n.len n.bytes
