-- A list of at most room pairs fits a solver.
use Rattle.std.specs.Prelude.{ℕ}
use Rattle.std.proofs.lemmas.Bool.{le-leb}
use Rattle.constraints.specs.Rows.{total}
use Rattle.constraints.specs.Least.{least}
use Rattle.engine.specs.Meanings.{Roomy}
use Rattle.solvers.specs.Taking.{solver_rule}

pub solver_roomy : (room : ℕ) → Roomy (solver_rule room)
solver_roomy room sys valid fits = le-leb (total (least sys)) room fits
