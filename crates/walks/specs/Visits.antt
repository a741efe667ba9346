-- The objects of a row, visited one by one while rows grow.
use Rattle.std.specs.Prelude.{◌≡◌, ℕ, ◌+◌, Some, None, Ok, Err, Result}
use Rattle.std.specs.Fn.{Shared}
use denote.Ref.{MutBor}
use Rattle.constraints.specs.Rows.{Rows}
use Rattle.rows.specs.Stores.{Found}
use Rattle.rows.specs.declared.StoreFault.{StoreFault}

-- a call of `visit` at the state s and the object o may answer r and leave the state t
pub record Visits {F G : Type 0} (f : Shared F (MutBor G × (ℕ × Unit {0})) (Result (Unit {0}) StoreFault × (MutBor G × Unit {0}))) (visit : F)
    (s : G) (o : ℕ) (r : Result (Unit {0}) StoreFault) (t : G) : Type 0 where
  pub shown : MutBor G
  pub shows : shown.now ≡ s
  pub left : MutBor G
  pub leaves : left.now ≡ t
  pub met : f.post visit (shown, (o, tt)) (r, (left, tt))

-- visits of the objects of row v from i on, each found in the rows as they are then, lead from s to t and answer r
pub data Visited {G : Type 0} (rows : G → Rows) (visits : G → ℕ → Result (Unit {0}) StoreFault → G → Type 0) (v : ℕ)
    : ℕ → G → G → Result (Unit {0}) StoreFault → Type 0 where
  over : {i : ℕ} {s : G} → Found (rows s v) i None → Visited rows visits v i s s (Ok tt)
  stopped : {i o : ℕ} {s t : G} {e : StoreFault} → Found (rows s v) i (Some o) → visits s o (Err e) t → Visited rows visits v i s t (Err e)
  onward : {i o : ℕ} {s t u : G} {r : Result (Unit {0}) StoreFault} → Found (rows s v) i (Some o) → visits s o (Ok tt) t
      → Visited rows visits v (o + 1) t u r → Visited rows visits v i s u r
