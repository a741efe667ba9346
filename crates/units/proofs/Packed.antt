-- A constraint that fits has its word.
use Rattle.std.proofs.Common.{◌≡◌, Some, arith}
use Rattle.constraints.specs.declared.constraint.Constraint.{Constraint}
use Rattle.constraints.specs.declared.constraint.Constraint.TheVariants.{Address, Copy, Load, Store}
use Rattle.constraints.specs.Encoding.{encode}
use Rattle.constraints.proofs.Encoding.{written_some}
use Rattle.units.specs.Words.{Fits, packed}

pub fits_packed : (c : Constraint) → Fits c → Some (packed c) ≡ encode c
fits_packed (Address p o) (l, r) = written_some 0 p 0 o l r (omega arith)
fits_packed (Copy p q) (l, r) = written_some 1 p 0 q l r (omega arith)
fits_packed (Load p q k) (l, r, small) = written_some 2 p k q l r small
fits_packed (Store p k q) (l, r, small) = written_some 3 p k q l r small
