-- The smallest solution of a valid system.
use Rattle.std.proofs.Common.{◌≡◌, ℕ, T, ◌↔◌}
use Rattle.constraints.specs.Rows.{Rows, pairs, ◌⊑◌}
use Rattle.constraints.specs.Constraint.{System, Solves, Solution, Smallest, Valid}
use Rattle.constraints.specs.Least.{least}
use Rattle.constraints.proofs.Rows.{rows_equal}
use Rattle.constraints.proofs.Least.{least_within, least_solves}
use Rattle.constraints.proofs.Valid.{least_below, least_object}

pub least_solution : (sys : System) → Valid sys → Solution sys (least sys)
least_solution sys valid =
    record { typed = λ v o t. ((least_below sys valid v o t).0, least_object sys valid v o t); solves = least_solves sys }

pub least_contained : (sys : System) (Q : Rows) → Solves sys Q → least sys ⊑ Q
least_contained sys Q solves = least_within sys (pairs Q) solves

pub least_smallest : (sys : System) → Valid sys → Smallest sys (least sys)
least_smallest sys valid = record { solution = least_solution sys valid; contained = λ Q s. least_contained sys Q s.solves }

pub smallest_unique : (sys : System) → Valid sys → (R : Rows) → Smallest sys R → R ≡ least sys
smallest_unique sys valid R small =
    rows_equal R (least sys) (small.contained (least sys) (least_solution sys valid)) (least_contained sys R small.solution.solves)

pub in_every : (sys : System) → Valid sys → (v o : ℕ) → T (least sys v o) ↔ ((Q : Rows) → Solution sys Q → T (Q v o))
in_every sys valid v o = (λ t Q s. least_contained sys Q s.solves v o t, λ all. all (least sys) (least_solution sys valid))

-- rows that meet every rule but hold more than objects ask no less
pub in_every_rows : (sys : System) (v o : ℕ) → T (least sys v o) ↔ ((Q : Rows) → Solves sys Q → T (Q v o))
in_every_rows sys v o = (λ t Q s. least_contained sys Q s v o t, λ all. all (least sys) (least_solves sys))
