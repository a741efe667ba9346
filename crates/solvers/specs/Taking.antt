-- Words taken in one by one, and what a solver means.
use Rattle.std.specs.Prelude.{◌≡◌, ℕ, ◌+◌, ◌<◌, ◌≤◌, Bool, true, T, length, Ok, Err, Result, nat_le}
use Rattle.constraints.specs.Rows.{Rows, total}
use Rattle.constraints.specs.Constraint.{System, first}
use Rattle.constraints.specs.Least.{least}
use Rattle.constraints.specs.Fits.{position}
use Rattle.rows.specs.declared.StoreFault.{StoreFault}
use Rattle.rows.specs.declared.StoreFault.TheVariants.{Outside, Full}
use Rattle.engine.specs.Meanings.{Rule, Meaning}
use Rattle.engine.specs.declared.fault.Stopped.{Stopped}

-- word i is taken in at room n: the rows are the smallest solution of the list up to it, or that has more than n pairs
abbrev pub Took : ℕ → System → ℕ → Rows → Type 0 → Result (Unit {0}) StoreFault → Type 0
Took n sys i rows idle (Ok _) = (rows ≡ least (first (i + 1) sys)) × (total rows ≤ n) × idle
Took n sys i rows idle (Err Outside) = ⊥
Took n sys i rows idle (Err (Full v o)) = T (least (first (i + 1) sys) v o) × (n < total (least (first (i + 1) sys)))

-- the list does not fit n pairs; the earliest position at which it has more, and a pair of its smallest solution
pub record Overfull (n : ℕ) (sys : System) (s : Stopped) : Type 0 where
  pub earliest : s.position ≡ position n sys
  pub within : s.position < length sys.words
  pub more : n < total (least sys)
  pub pair : (v o : ℕ) × (s.store ≡ Full v o) × T (least sys v o)

abbrev pub SettledList : ℕ → System → Rows → Result (Unit {0}) Stopped → Type 0
SettledList n sys rows (Ok _) = (rows ≡ least sys) × (total (least sys) ≤ n)
SettledList n sys rows (Err s) = Overfull n sys s

-- a list fits exactly if its smallest solution has at most room pairs
abbrev pub solver_rule : ℕ → Rule
solver_rule room = record { room = room; fits = λ sys. nat_le (total (least sys)) room; position = position room; depth = λ sys. 0 }

abbrev pub solver_meaning : ℕ → System → Bool → Meaning
solver_meaning room sys settled = record { system = sys; settled = settled; rule = solver_rule room }

-- once settled, the rows are the smallest solution
abbrev pub Solved : Rows → System → Bool → Type 0
Solved rows sys settled = settled ≡ true → rows ≡ least sys
