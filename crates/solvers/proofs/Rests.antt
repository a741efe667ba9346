-- Rows that grew from the smallest solution of the first i words, and meet one word more, are the next smallest solution.
use Rattle.std.proofs.Common.{◌≡◌, ℕ, ◌+◌, ◌≤◌, not, T, Ok, Err, Result, sym, subst, arith}
use Rattle.constraints.specs.Rows.{Rows, ◌⊑◌, total}
use Rattle.constraints.specs.Constraint.{System, Solves, first}
use Rattle.constraints.specs.Least.{least}
use Rattle.constraints.proofs.Least.{least_solves}
use Rattle.constraints.proofs.Solver.{settled_least, too_many, first_mono}
use Rattle.rows.specs.declared.StoreFault.{StoreFault}
use Rattle.rows.specs.declared.StoreFault.TheVariants.{Outside, Full}
use Rattle.walks.specs.Grown.{Grows, Grown, Any}
use Rattle.solvers.specs.Taking.{Took}

module _ {G : Type 0} (rows : G → Rows) (limit : G → ℕ) (sys : System) (i : ℕ) (s t : G)
    (so_far : rows s ≡ least (first i sys)) (fits : total (rows s) ≤ limit s) where
  abbrev wanted : System
  wanted = first (i + 1) sys

  start_within : rows s ⊑ least wanted
  start_within = rw so_far (first_mono i (i + 1) sys (omega arith))

  within : Grows rows limit Any (Solves wanted) s t → rows t ⊑ least wanted
  within grows = grows.only (least wanted) (least_solves wanted) start_within

  pub took : (I : Type 0) (r : Result (Unit {0}) StoreFault)
      → Grown rows limit Any (Solves wanted) s t (Solves wanted (rows t) × I) r → Took (limit s) sys i (rows t) I r
  took I (Ok x) g =
      let (solves, rests) = g.ends in
      (settled_least wanted (rows t) (within g.grows) solves, rw (← g.grows.same_limit) (g.grows.few fits), rests)
  took I (Err Outside) g = g.ends
  took I (Err (Full v o)) g =
      let (v_in, o_in, new, full, lies) = g.ends in
      let held : T (least wanted v o) = lies (least wanted) (least_solves wanted) start_within in
      let lacks : T (not (rows t v o)) = subst (λ b. T (not b)) (sym new) tt in
      let more = too_many wanted (rows t) v o (within g.grows) v_in o_in lacks held in
      (held, omega (arith, more, full, g.grows.same_limit))
