-- Which variables a constraint opens.
use Rattle.std.specs.Prelude.{ℕ, ◌+◌, Bool, false, ◌&&◌, List, nat_le, nat_lt}
use Rattle.constraints.specs.declared.constraint.Constraint.{Constraint}
use Rattle.constraints.specs.declared.constraint.Constraint.TheVariants.{Address as address, Copy as copy, Load as load, Store as store}
use Rattle.constraints.specs.Constraint.{length_of}

-- the constraint takes the address of the block of v
abbrev pub opens : List ℕ → Constraint → ℕ → Bool
opens blocks (address p o) v = nat_le o v && nat_lt v (o + length_of blocks o)
opens blocks (copy p q) v = false
opens blocks (load p q k) v = false
opens blocks (store p k q) v = false
