use Rattle.std.proofs.Common.{ℕ, ◌<◌}
use Rattle.constraints.specs.Rows.{pairs}
use Rattle.constraints.specs.Constraint.{constraint, Solves, first}
use Rattle.constraints.specs.Lists.{system_of}
use Rattle.walks.specs.Grown.{Grows}
use Rattle.difference.specs.Handed.{Handed}
use Rattle.difference.proofs.spread.hand_on.Given as goal

-- the pair is handed on by the words so far
abbrev pub invariant-loop-word : goal.invariant-loop-word
invariant-loop-word g l =
    let m = g.G.Grower in
    let sys = system_of l.list in
    Grows m.rows m.limit (m.notes sys) (Solves (first l.n sys)) l.initial.g l.g
    × ((i : ℕ) → i < l.word-index → Handed sys.blocks (constraint sys i) l.pair.variable l.pair.object (pairs (m.rows l.initial.g)) (pairs (m.rows l.g)))
