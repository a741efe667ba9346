use Rattle.std.proofs.Common.{◌≡◌, ℕ, ◌<◌, Bool, get_or}
use Rattle.arrayvec.specs.ArrayVec.{array_vec_len}
use Rattle.constraints.specs.Constraint.{System, var_count}
use Rattle.constraints.specs.Merge.{representative}
use Rattle.layers.specs.Classes.{Numbers, Flags}
use Rattle.layers.proofs.represent.Classes.represent.Given as goal

abbrev pub invariant-loop-v : goal.invariant-loop-v
invariant-loop-v l =
    record {
      long : array_vec_len l.reps ≡ l.v;
      within : (u : ℕ) → u < l.v → get_or l.reps.items u 0 < l.self.count;
      value : (u : ℕ) → u < l.v → (sys : System) (same : ℕ → ℕ → Bool) → l.self.count ≡ var_count sys → Flags sys l.self.is_open
          → Numbers sys same l.self.class → get_or l.reps.items u 0 ≡ representative sys same u;
    }
