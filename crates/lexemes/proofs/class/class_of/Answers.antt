-- The table is `class_of` at 0, 1, .. 255: antt computes both lists, and compares them entry by entry.
use Rattle.std.proofs.Common.{arith}
use Rattle.std.proofs.lemmas.List.FromFn.{get_or-map-range_with_len}
use Rattle.lexemes.specs.Classes.{class_of}
use Rattle.lexemes.specs.declared.class.Class.TheVariants.{Blank}
use Rattle.lexemes.proofs.class.class_of.Goals as goal

pub returns : goal.returns
returns c = rw c.from.ensures (get_or-map-range_with_len class_of 0 256 c.args.b c.args.b Blank (omega (arith, c.ranges.b)) (omega arith))
