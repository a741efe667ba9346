-- A word is taken in: it is walked, then the new pairs are handed on.
use Rattle.std.proofs.Common.{◌≡◌, ℕ, ◌+◌, ◌<◌, ◌≤◌, length, Err, Result, refl, arith}
use Rattle.constraints.specs.Rows.{Rows, pairs, total}
use Rattle.constraints.specs.Constraint.{System, constraint, Meets, Solves, first}
use Rattle.constraints.specs.declared.constraint.Constraint.{Constraint}
use Rattle.constraints.specs.Least.{least}
use Rattle.rows.specs.declared.StoreFault.{StoreFault}
use Rattle.walks.specs.Grown.{Grows, Grown, Any}
use Rattle.walks.proofs.Growth.{grows_none, grows_weaker, grows_moved, grown_moved, grown_refused, grown_after, any_onward}
use Rattle.walks.proofs.Fronts.{met_first}
use Rattle.solvers.specs.Taking.{Took}
use Rattle.solvers.proofs.Rests.{took}

module _ {G : Type 0} (rows : G → Rows) (limit : G → ℕ) (notes : G → G → Type 0) (sys : System) (i : ℕ) (c : Constraint) (s t : G)
    (i_in : i < length sys.words) (is : c ≡ constraint sys i) (so_far : rows s ≡ least (first i sys)) (fits : total (rows s) ≤ limit s) where
  abbrev Wanted : Rows → Type 0
  Wanted = Solves (first (i + 1) sys)

  abbrev Walked : Rows → Type 0
  Walked R = Meets sys.blocks c (pairs R)

  leads : (R : Rows) → Wanted R → Walked R
  leads R m = rw is (met_first sys (i + 1) R m i (omega arith) i_in)

  -- the store refused during the walk
  pub walk_refused : (D I : Type 0) (e : StoreFault) (r : Result (Unit {0}) StoreFault) → Grown {X = Unit {0}} rows limit notes Walked s t D (Err e) → r ≡ Err e
      → Took (limit s) sys i (rows t) I r
  walk_refused D I e r walked refused =
      took rows limit sys i s t so_far fits I r
      (grown_refused any_onward Wanted Walked s s t (grows_none rows limit Any (λ s. tt) Wanted s) (λ R m h. leads R m) (Wanted (rows t) × I) D e r
      (grown_moved Walked s s t refl refl D (Err e) walked) refused)

  -- the first n words are those up to i, and the run went on from the walk
  pub walk_then : (n : ℕ) (u : G) (I : Type 0) (r : Result (Unit {0}) StoreFault) → n ≡ i + 1 → Grows rows limit notes Walked s t
      → Grown rows limit Any (Solves (first n sys)) t u (Solves (first n sys) (rows u) × I) r → Took (limit s) sys i (rows u) I r
  walk_then n u I r same walked ran =
      let ran' : Grown rows limit Any Wanted t u (Wanted (rows u) × I) r = rw same at ran in
      took rows limit sys i s u so_far fits I r
      (grown_after any_onward Wanted Wanted s t u (grows_weaker (λ R m h. leads R m) (grows_moved Walked s s t refl refl walked)) (λ R m h. m)
      (Wanted (rows u) × I) (Wanted (rows u) × I) (λ d. d) r ran')
