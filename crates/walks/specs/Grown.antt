-- How rows grow, whatever is noted of new pairs.
use Rattle.std.specs.Prelude.{◌≡◌, ℕ, ◌<◌, ◌≤◌, false, T, Ok, Err, Result}
use Rattle.constraints.specs.Rows.{Rows, Relation, ◌⊑◌, pairs, total}
use Rattle.rows.specs.declared.StoreFault.{StoreFault}
use Rattle.rows.specs.declared.StoreFault.TheVariants.{Outside, Full}

-- n pairs are held, the refused one is new, and it lies in all rows that contain P and meet C
abbrev pub Refused : (Rows → Type 0) → Rows → Rows → ℕ → StoreFault → Type 0
Refused C P Q n Outside = ⊥
Refused C P Q n (Full v o) = (v < 256) × (o < 256) × (Q v o ≡ false) × (total Q ≡ n) × ((R : Rows) → C R → P ⊑ R → T (R v o))

abbrev pub Ends : {X : Type 0} → (Rows → Type 0) → Rows → Rows → ℕ → Type 0 → Result X StoreFault → Type 0
Ends C P Q n D (Ok x) = D
Ends C P Q n D (Err e) = Refused C P Q n e

-- only pairs that lie in all rows which contain those of s and meet C are added
pub record Grows {G : Type 0} (rows : G → Rows) (limit : G → ℕ) (notes : G → G → Type 0) (C : Rows → Type 0) (s t : G) : Type 0 where
  pub more : rows s ⊑ rows t
  pub only : (R : Rows) → C R → rows s ⊑ R → rows t ⊑ R
  pub noted : notes s t
  pub same_limit : limit t ≡ limit s
  pub few : total (rows s) ≤ limit s → total (rows t) ≤ limit t

-- a walk from s to t that answers r: unless it is refused, D holds
pub record Grown {G X : Type 0} (rows : G → Rows) (limit : G → ℕ) (notes : G → G → Type 0) (C : Rows → Type 0) (s t : G) (D : Type 0) (r : Result X StoreFault) : Type 0 where
  pub grows : Grows rows limit notes C s t
  pub ends : Ends C (rows s) (rows t) (limit t) D r

-- a walk that asks A: it adds only what all rows have that meet A, and unless it is refused, what A asks from the rows as found is there
abbrev pub Adds : {G X : Type 0} → (G → Rows) → (G → ℕ) → (G → G → Type 0) → (Relation → Relation → Type 0) → G → G → Result X StoreFault → Type 0
Adds rows limit notes A s t r = Grown rows limit notes (λ R. A (pairs R) (pairs R)) s t (A (pairs (rows s)) (pairs (rows t))) r

-- no notes
abbrev pub Any : {G : Type 0} → G → G → Type 0
Any s t = Unit {0}
