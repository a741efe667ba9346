-- Copy edges of a list lead to variables below 256.
use Rattle.std.specs.Prelude.{◌≡◌, ℕ, zero, suc, ◌<◌, true, slice_index_or}
use Rattle.std.proofs.Common.{arith}
use Rattle.constraints.specs.Constraint.{System, var_count, Valid, kind, left, offset, right, decode, of_kind}
use Rattle.constraints.specs.declared.constraint.Constraint.TheVariants.{Copy as copy}
use Rattle.constraints.specs.Merge.{copy_edge}
use Rattle.constraints.specs.Lists.{system_of}
use Rattle.constraints.specs.declared.list.ConstraintList.{ConstraintList}
use Rattle.constraints.proofs.Merge.{edge_elim}
use Rattle.constraints.proofs.Sound.{list_valid}

copy_kind : (n p k q a b : ℕ) → of_kind n p k q ≡ copy a b → (p ≡ a) × (q ≡ b)
copy_kind zero p k q a b e = let z : ◌≡◌ {A = ℕ} 0 1 = cc in absurd (omega arith)
copy_kind (suc zero) p k q a b e = (cc, cc)
copy_kind (suc (suc zero)) p k q a b e = let z : ◌≡◌ {A = ℕ} 0 1 = cc in absurd (omega arith)
copy_kind (suc (suc (suc n))) p k q a b e = let z : ◌≡◌ {A = ℕ} 0 1 = cc in absurd (omega arith)

-- a copy's left variable is one of the system's
pub copy_target : (sys : System) → Valid sys → (u v : ℕ) → copy_edge sys u v ≡ true → v < var_count sys
unfolding decode
copy_target sys valid u v e =
    let (i, lt, is) = edge_elim sys u v (rw e tt) in
    let w = slice_index_or sys.words i 0 in
    let ends = copy_kind (kind w) (left w) (offset w) (right w) v u is in
    omega (arith, (valid.formed i lt).left_in)

pub copy_inside : (list : ConstraintList) (u v : ℕ) → copy_edge (system_of list) u v ≡ true → v < 256
copy_inside list u v e =
    let valid = list_valid list in
    omega (arith, copy_target (system_of list) valid u v e, valid.few)
