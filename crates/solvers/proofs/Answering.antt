-- Questions about a variable of the blocks are answered by the store.
use Rattle.std.proofs.Common.{◌≡◌, ℕ, ◌<◌, Bool, true, false, cond, Ok, Err, refl, ⊎_elim, arith}
use Rattle.constraints.specs.Rows.{Rows}
use Rattle.constraints.specs.Constraint.{length_of}
use Rattle.constraints.specs.Lists.{system_of}
use Rattle.constraints.specs.declared.list.ConstraintList.{ConstraintList}
use Rattle.constraints.proofs.Least.{block_below}
use Rattle.constraints.proofs.Sound.{list_valid}
use Rattle.rows.specs.Stores.{HasOf}
use Rattle.rows.specs.declared.StoreFault.{StoreFault}
use Rattle.rows.specs.declared.StoreFault.TheVariants.{Outside, Full}
use Rattle.engine.specs.declared.fault.EngineFault.TheVariants.{Gathering, Outside as OutsideEngine}

-- of a variable and an object of the blocks no store refuses to tell
pub no_fault : (P : Rows) (v o : ℕ) (e : StoreFault) → v < 256 → o < 256 → HasOf P v o (Err e) → ⊥
no_fault P v o Outside v_in o_in f = ⊎_elim (λ h. omega arith) (λ h. omega arith) f
no_fault P v o (Full x y) v_in o_in f = f

pub object_below : (l : ConstraintList) (o : ℕ) → 0 < length_of (system_of l).blocks o → o < 256
object_below l o h = omega (arith, block_below (system_of l).blocks o 0 h, (list_valid l).few)

-- an answered question is about a variable of the blocks
pub admitted : (settled inside : Bool) (x : Unit {0}) → Ok x ≡ cond settled (cond inside (Ok tt) (Err OutsideEngine)) (Err Gathering) → inside ≡ true
admitted true true x e = refl
admitted true false x e = absurd cc
admitted false inside x e = absurd cc
