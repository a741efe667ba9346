-- From the words taken in to the whole list.
use Rattle.std.proofs.Common.{◌≡◌, ℕ, ◌+◌, ◌<◌, ◌≤◌, length, Ok, Err, Result, MatchResult, sym, not-suc-le-zero, arith}
use Rattle.std.specs.Result.{IsErrAnd}
use Rattle.constraints.specs.Rows.{Rows, empty, total}
use Rattle.constraints.specs.Constraint.{System, Closed, first}
use Rattle.constraints.specs.Least.{least}
use Rattle.constraints.proofs.Rows.{rows_equal, total_mono}
use Rattle.constraints.proofs.Least.{least_within, first_within}
use Rattle.constraints.proofs.Solver.{position_is}
use Rattle.rows.specs.declared.StoreFault.{StoreFault}
use Rattle.rows.specs.declared.StoreFault.TheVariants.{Outside, Full}
use Rattle.rows.proofs.Counts.{total_empty}
use Rattle.engine.specs.declared.fault.Stopped.{Stopped}
use Rattle.solvers.specs.Taking.{Took, Overfull}

-- no words, no pairs
pub none_least : (sys : System) → empty ≡ least (first 0 sys)
none_least sys = rows_equal empty (least (first 0 sys)) (λ v o t. absurd t) (λ v o t. least_within (first 0 sys) (λ v o. ⊥) closed v o t)
  where
    closed : Closed (first 0 sys) (λ v o. ⊥)
    closed c (i, lt, e) = absurd (not-suc-le-zero lt)

pub none_fits : (n : ℕ) (P : Rows) → P ≡ empty → total P ≤ n
none_fits n P e = rw e (omega (arith, total_empty))

-- a store that is full at word i names the position of a list that does not fit
pub overfull : (n : ℕ) (sys : System) (P Q : Rows) (I : Type 0) (i : ℕ) (e : StoreFault) → i < length sys.words
    → P ≡ least (first i sys) → total P ≤ n → Took n sys i Q I (Err e) → Overfull n sys (record { position = i; store = e })
overfull n sys P Q I i Outside i_in so_far fits took = absurd took
overfull n sys P Q I i (Full v o) i_in so_far fits (held, more) =
    let fits' : total (least (first i sys)) ≤ n = rw so_far at fits in
    record {
      earliest = sym (position_is n sys i i_in fits' more);
      within = i_in;
      more = omega (arith, more, total_mono (least (first (i + 1) sys)) (least sys) (first_within (i + 1) sys));
      pair = (v, o, λ i. Full v o, first_within (i + 1) sys v o held);
    }

-- the same, of the fault as it is handed on
pub overfull_as : (n : ℕ) (sys : System) (P Q : Rows) (I : Type 0) (i : ℕ) (r : Result (Unit {0}) StoreFault) (m : Result (Unit {0}) Stopped) (t : Stopped)
    (As : StoreFault → Stopped → Type 0) → i < length sys.words → P ≡ least (first i sys) → total P ≤ n → Took n sys i Q I r
    → MatchResult r (λ x. m ≡ Ok x) (λ e. IsErrAnd m (As e)) → ((e : StoreFault) (s : Stopped) → As e s → s ≡ record { position = i; store = e })
    → m ≡ Err t → Overfull n sys t
overfull_as n sys P Q I i (Ok x) m t As i_in so_far fits took ok wraps err = absurd cc
overfull_as n sys P Q I i (Err e) m t As i_in so_far fits took told wraps err =
    rw (wraps e t (rw err at told)) (overfull n sys P Q I i e i_in so_far fits took)
