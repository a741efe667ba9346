-- What a table holds: a map from names to notes, and the variables of its blocks.
use Rattle.std.specs.Prelude.{ℕ, List, take, Option}
use Rattle.names.specs.declared.record.Note.{Note}
use Rattle.names.specs.declared.record.NameRecord.{NameRecord}
use Rattle.names.specs.declared.table.NameTable.{NameTable}
use Rattle.names.specs.Notes.{note_of, total, width}

abbrev pub held : NameTable → List NameRecord
held t = take t.used t.records

abbrev pub notes : NameTable → List ℕ → Option Note
notes t = note_of (held t)

abbrev pub variables_of : NameTable → ℕ
variables_of t = total width (held t)
