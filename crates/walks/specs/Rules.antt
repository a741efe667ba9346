-- A constraint's rule from one set of rows to another.
use Rattle.std.specs.Prelude.{ℕ, ◌+◌, ◌<◌, List}
use Rattle.constraints.specs.Rows.{Relation}
use Rattle.constraints.specs.Constraint.{length_of}
use Rattle.constraints.specs.declared.constraint.Constraint.{Constraint}
use Rattle.constraints.specs.declared.constraint.Constraint.TheVariants.{Address as address, Copy as copy, Load as load, Store as store}

-- row p of R includes row q of P
abbrev pub Includes : ℕ → ℕ → Relation → Relation → Type 0
Includes p q P R = (o : ℕ) → P q o → R p o

-- what a load or a store asks at an object o of the row through which it goes
abbrev pub LoadFrom : List ℕ → ℕ → ℕ → ℕ → Relation → Relation → Type 0
LoadFrom blocks p o k P R = k < length_of blocks o → Includes p (o + k) P R

abbrev pub StoreInto : List ℕ → ℕ → ℕ → ℕ → Relation → Relation → Type 0
StoreInto blocks o k q P R = k < length_of blocks o → Includes (o + k) q P R

-- what the rule asks from the rows P is in the rows R; rows meet the rule where it holds from them to themselves
abbrev pub Rule : List ℕ → Constraint → Relation → Relation → Type 0
Rule blocks (address p o) P R = R p o
Rule blocks (copy p q) P R = Includes p q P R
Rule blocks (load p q k) P R = (o x : ℕ) → P q o → k < length_of blocks o → P (o + k) x → R p x
Rule blocks (store p k q) P R = (o x : ℕ) → P p o → k < length_of blocks o → P q x → R (o + k) x

-- both variables are below n
abbrev pub Below : ℕ → Constraint → Type 0
Below n (address p o) = (p < n) × (o < n)
Below n (copy p q) = (p < n) × (q < n)
Below n (load p q k) = (p < n) × (q < n)
Below n (store p k q) = (p < n) × (q < n)
