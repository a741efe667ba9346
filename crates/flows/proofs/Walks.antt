-- Paths along copies are walks of the system.
use Rattle.std.proofs.Common.{ℕ, ◌<◌, List, arith}
use Rattle.graphs.specs.Matrix.{bit}
use Rattle.graphs.specs.Paths.{Reaches, here as stop, step, Closure}
use Rattle.graphs.proofs.Closing.{reaches_append}
use Rattle.constraints.specs.Constraint.{System, var_count, Valid}
use Rattle.constraints.specs.Graph.{Walk, here, along, reaches}
use Rattle.constraints.specs.Merge.{copy_edge, copy_reach}
use Rattle.constraints.proofs.Finite.{T_true}
use Rattle.constraints.proofs.Graph.{reaches_walk, walk_reaches}
use Rattle.flows.specs.Columns.{ReachBits}
use Rattle.flows.specs.Inside.{copy_target}
use Rattle.flows.proofs.Opening.{bool_same}
use Rattle.flows.proofs.Scans.{T-from}

module _ (sys : System) (valid : Valid sys) where
  pub walk_path : (u v : ℕ) → Walk (var_count sys) (copy_edge sys) u v → Reaches (copy_edge sys) u v
  walk_path u v (here lt) = stop
  walk_path u v (along {q} {p} w e lt) = reaches_append (walk_path u q w) (step (T_true e) stop)

  extend : (s u v : ℕ) → Walk (var_count sys) (copy_edge sys) s u → Reaches (copy_edge sys) u v → Walk (var_count sys) (copy_edge sys) s v
  extend s u v walk stop = walk
  extend s u v walk (step {w = t} e path) = extend s t v (along walk (T-from (copy_edge sys u t) e) (copy_target sys valid u t e)) path

  pub path_walk : (u v : ℕ) → u < var_count sys → Reaches (copy_edge sys) u v → Walk (var_count sys) (copy_edge sys) u v
  path_walk u v lt path = extend u u v (here lt) path

  pub closure_bits : (m : List ℕ) → Closure (copy_edge sys) m → ReachBits sys m
  unfolding copy_reach
  closure_bits m closure u v hu hv =
      let told = closure u v (omega (arith, valid.few)) (omega (arith, valid.few)) in
      bool_same (bit m u v) (reaches (var_count sys) (copy_edge sys) u v)
      (λ t. walk_reaches (var_count sys) (copy_edge sys) u v (path_walk u v hu (told.0 (T_true t))))
      (λ t. T-from (bit m u v) (told.1 (walk_path u v (reaches_walk (var_count sys) (copy_edge sys) u v t))))
