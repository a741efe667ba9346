use Rattle.std.proofs.Common.{◌≡◌, ◌+◌, ◌*◌, ◌≤◌, List, length, drop}
use Rattle.constraints.specs.Least.{least}
use Rattle.constraints.specs.Blocks.{start}
use Rattle.units.specs.Listing.{overlaid}
use Rattle.declarations.specs.Declarations.{Entry}
use Rattle.books.specs.Tables.{blocks}
use Rattle.books.specs.Targets.{targets}
use Rattle.standing.specs.States.{units_of}
use Rattle.standing.specs.Lists.{list_in, owners_in}
use Rattle.host_analyser.specs.Objects.{AnswersFor}
use Rattle.host_analyser.specs.Listing.{Tabled}
use Rattle.host_analyser.proofs.Lines.{left_lines}
use Rattle.host_analyser.proofs.listing.list_targets.Given as goal

-- the lines of the entries before i are written, and those of the others are left
abbrev pub invariant-loop-size : goal.invariant-loop-size
invariant-loop-size g l =
    let m = g.E.Engine.meaning l.initial.engine in
    let row = least m.system l.v in
    let i = length l.yielded in
    (l.n ≤ 25 * i)
    × (g.E.Engine.meaning l.engine ≡ m)
    × ((es : List Entry) → Tabled es m.system (units_of l.units) (list_in l.list) (owners_in l.list) → AnswersFor m l.v
    → (l.first ≡ start (blocks es) i)
    × (overlaid l.out l.n (left_lines row l.first (drop i es)) ≡ overlaid l.initial.out 0 (targets es row))
    × (l.n + length (left_lines row l.first (drop i es)) ≡ length (targets es row)))
