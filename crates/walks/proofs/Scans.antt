-- A walk over row q by `next`, while the rows P grow to Q: what holds of the objects of P below i.
use Rattle.std.proofs.Common.{◌≡◌, ℕ, ◌+◌, ◌<◌, ◌≤◌, Bool, true, T, Some, None, sym, subst, ⊎_elim, arith}
use Rattle.std.proofs.lemmas.Bool.{both_ways, cases_lt, cases_eq}
use Rattle.constraints.specs.Rows.{Rows, ◌⊑◌}
use Rattle.constraints.proofs.Finite.{T_true}
use Rattle.rows.specs.Stores.{Found}

pub true-T : {b : Bool} → b ≡ true → T b
true-T e = subst T (sym e) tt

-- D holds of each object below i in row q of P
abbrev pub Scanned : Rows → ℕ → ℕ → (ℕ → Type 0) → Type 0
Scanned P q i D = (o : ℕ) → o < i → T (P q o) → D o

module _ (P Q : Rows) (q i : ℕ) (grows : P ⊑ Q) (D : ℕ → Type 0) (before : Scanned P q i D) where
  pub scan_more : (o : ℕ) → Found (Q q) i (Some o) → D o → Scanned P q (o + 1) D
  scan_more o next here x h p = ⊎_elim (λ l. before x l p) later (cases_lt x i)
    where
      later : i ≤ x → D x
      later l = ⊎_elim (λ e. rw e here) (λ ne. absurd (both_ways (Q q x) (next.before x l (omega arith)) (T_true (grows q x p)))) (cases_eq x o)

  pub scan_all : Found (Q q) i None → (o : ℕ) → T (P q o) → D o
  scan_all next x p = ⊎_elim (λ l. before x l p) (λ l. absurd (both_ways (Q q x) (next x l) (T_true (grows q x p)))) (cases_lt x i)
