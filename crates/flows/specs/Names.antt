-- Which variables a constraint names.
use Rattle.std.specs.Prelude.{ℕ, ◌<◌}
use Rattle.constraints.specs.declared.constraint.Constraint.{Constraint}
use Rattle.constraints.specs.declared.constraint.Constraint.TheVariants.{Address as address, Copy as copy, Load as load, Store as store}

-- the constraint names variables below n, and an offset below 8
abbrev pub NamesBelow : ℕ → Constraint → Type 0
NamesBelow n (address p o) = (p < n) × (o < n)
NamesBelow n (copy p q) = (p < n) × (q < n)
NamesBelow n (load p q k) = (p < n) × (q < n) × (k < 8)
NamesBelow n (store p k q) = (p < n) × (q < n) × (k < 8)
