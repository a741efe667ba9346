-- What a layer has worked out before it hands down, and what its promises rest on.
use Rattle.std.specs.Prelude.{◌≡◌, ℕ, ◌<◌, Bool, true, cond, List, [], Some, None, Option, nat_lt, slice_index}
use Rattle.arrayvec.specs.ArrayVec.{array_vec_len}
use Rattle.constraints.specs.Constraint.{System, var_count}
use Rattle.constraints.specs.Lists.{system_of}
use Rattle.constraints.specs.Reduced.{replaced}
use Rattle.engine.specs.Meanings.{Meaning}
use Rattle.layers.specs.Classes.{Representatives}
use Rattle.layers.specs.Layered.{Classing, rep_by, handed}
use Rattle.layers.specs.declared.plan.Plan.{Plan}

-- representatives and the reduced list
pub record Prepared (same : Classing) (p : Plan) : Type 0 where
  pub told : Representatives (system_of p.own) (same (system_of p.own)) p.reps.items
  pub within : (v : ℕ) → v < var_count (system_of p.own) → slice_index p.reps.items v < var_count (system_of p.own)
  pub covers : array_vec_len p.reps ≡ var_count (system_of p.own)
  pub listed : p.remaining.items ≡ (handed same (system_of p.own)).words

-- while a layer is settled, the engine below holds the reduced list
pub record Handed (below : Meaning) (same : Classing) (p : Plan) : Type 0 where
  pub holds : below.system ≡ handed same (system_of p.own)
  pub answers : below.settled ≡ true
  pub ready : Prepared same p

abbrev pub LayerSound : Bool → Meaning → Classing → Plan → Type 0
LayerSound settled below same p = settled ≡ true → Handed below same p

-- how many variables a layer has replaced
abbrev pub replaced_count : Classing → Bool → System → ℕ
replaced_count same settled sys = cond settled (replaced (rep_by same sys) sys) 0

-- the variable that stands for v in a settled layer
abbrev pub stands_for : Classing → Bool → System → ℕ → Option ℕ
stands_for same settled sys v = cond settled (cond (nat_lt v (var_count sys)) (Some (rep_by same sys v)) None) None

-- the words that a settled layer has handed down
abbrev pub handed_words : Classing → Bool → System → List ℕ
handed_words same settled sys = cond settled (handed same sys).words []
