-- Growth follows on growth.
use Rattle.std.proofs.Common.{◌≡◌, ℕ, Ok, Err, Result, refl, ◌∙◌}
use Rattle.constraints.specs.Rows.{Rows, ◌⊑◌}
use Rattle.rows.specs.declared.StoreFault.{StoreFault}
use Rattle.rows.specs.declared.StoreFault.TheVariants.{Outside, Full}
use Rattle.walks.specs.Grown.{Grows, Grown, Refused, Any}

pub grows_none : {G : Type 0} (rows : G → Rows) (limit : G → ℕ) (notes : G → G → Type 0) → ((s : G) → notes s s) → (C : Rows → Type 0) (s : G) → Grows rows limit notes C s s
grows_none rows limit notes still C s = record { more = λ v o h. h; only = λ R m h. h; noted = still s; same_limit = refl; few = λ h. h }

module _ {G : Type 0} {rows : G → Rows} {limit : G → ℕ} {notes : G → G → Type 0} (onward : (s t u : G) → notes s t → notes t u → notes s u) (C C' : Rows → Type 0) (s t u : G) (a : Grows rows limit notes C s t) (leads : (R : Rows) → C R → rows t ⊑ R → C' R) where
  pub grows_then : Grows rows limit notes C' t u → Grows rows limit notes C s u
  grows_then b = record {
    more = λ v o h. b.more v o (a.more v o h);
    only = λ R m h. let below = a.only R m h in b.only R (leads R m below) below;
    noted = onward s t u a.noted b.noted;
    same_limit = b.same_limit ∙ a.same_limit;
    few = λ h. b.few (a.few h);
  }

  refused_then : (n : ℕ) (e : StoreFault) → Refused C' (rows t) (rows u) n e → Refused C (rows s) (rows u) n e
  refused_then n Outside f = f
  refused_then n (Full v o) f =
      (f.0, f.1, f.2, f.3, λ R m h. let below = a.only R m h in f.4 R (leads R m below) below)

  -- a step that is refused ends the walk
  pub grown_refused : {X Y : Type 0} (D D' : Type 0) (e : StoreFault) (r : Result X StoreFault) → Grown {X = Y} rows limit notes C' t u D' (Err e) → r ≡ Err e → Grown rows limit notes C s u D r
  grown_refused D D' e r b is = record { grows = grows_then b.grows; ends = rw is (refused_then (limit u) e b.ends) }

  -- one step more, which answers r
  pub grown_after : {X : Type 0} (D D' : Type 0) → (D' → D) → (r : Result X StoreFault) → Grown rows limit notes C' t u D' r → Grown rows limit notes C s u D r
  grown_after D D' d (Ok x) b = record { grows = grows_then b.grows; ends = d b.ends }
  grown_after D D' d (Err e) b = grown_refused D D' e (Err e) b refl

refused_weaker : (C C' : Rows → Type 0) (P Q : Rows) (n : ℕ) (leads : (R : Rows) → C R → P ⊑ R → C' R) (e : StoreFault) → Refused C' P Q n e → Refused C P Q n e
refused_weaker C C' P Q n leads Outside f = f
refused_weaker C C' P Q n leads (Full v o) f = (f.0, f.1, f.2, f.3, λ R m h. f.4 R (leads R m h) h)

pub grows_weaker : {G : Type 0} {rows : G → Rows} {limit : G → ℕ} {notes : G → G → Type 0} {C C' : Rows → Type 0} {s t : G} → ((R : Rows) → C R → rows s ⊑ R → C' R) → Grows rows limit notes C' s t → Grows rows limit notes C s t
grows_weaker leads b = record { more = b.more; only = λ R m h. b.only R (leads R m h) h; noted = b.noted; same_limit = b.same_limit; few = b.few }

-- the same walk, against a condition that says more and an outcome that says less
pub grown_weaker : {G X : Type 0} {rows : G → Rows} {limit : G → ℕ} {notes : G → G → Type 0} (C C' : Rows → Type 0) (s t : G) (D D' : Type 0) → ((R : Rows) → C R → rows s ⊑ R → C' R) → (D' → D) → (r : Result X StoreFault) → Grown rows limit notes C' s t D' r → Grown rows limit notes C s t D r
grown_weaker C C' s t D D' leads d (Ok x) b = record { grows = grows_weaker leads b.grows; ends = d b.ends }
grown_weaker C C' s t D D' leads d (Err e) b = record { grows = grows_weaker leads b.grows; ends = refused_weaker C C' _ _ _ leads e b.ends }

-- from a state with the same rows, and without its notes
module _ {G : Type 0} {rows : G → Rows} {limit : G → ℕ} {notes : G → G → Type 0} (C : Rows → Type 0) (s s' t : G) (same : rows s' ≡ rows s) (room : limit s' ≡ limit s) where
  pub grows_moved : Grows rows limit notes C s' t → Grows rows limit Any C s t
  grows_moved a =
      record {
        more = λ v o h. a.more v o (rw same h);
        only = λ R m h. a.only R m (rw same h);
        noted = tt;
        same_limit = a.same_limit ∙ room;
        few = λ h. a.few (rw (same, room) h);
      }

  pub grown_moved : {X : Type 0} (D : Type 0) (r : Result X StoreFault) → Grown rows limit notes C s' t D r → Grown rows limit Any C s t D r
  grown_moved D r b = record { grows = grows_moved b.grows; ends = rw (← same) b.ends }

pub any_onward : {G : Type 0} (s t u : G) → Any s t → Any t u → Any s u
any_onward s t u a b = tt
