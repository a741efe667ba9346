-- What one pair asks of a constraint: the instances of its rule that have the pair among their premises.
use Rattle.std.specs.Prelude.{◌≡◌, ℕ, ◌+◌, ◌<◌, List}
use Rattle.constraints.specs.Rows.{Relation}
use Rattle.constraints.specs.Constraint.{length_of}
use Rattle.constraints.specs.declared.constraint.Constraint.{Constraint}
use Rattle.constraints.specs.declared.constraint.Constraint.TheVariants.{Address as address, Copy as copy, Load as load, Store as store}
use Rattle.walks.specs.Rules.{LoadFrom, StoreInto}

-- by a load: the pair names the block that is read, or lies in a row that is read
abbrev pub LoadBase : List ℕ → ℕ → ℕ → ℕ → ℕ → ℕ → Relation → Relation → Type 0
LoadBase blocks p q k v o P R = q ≡ v → LoadFrom blocks p o k P R

abbrev pub LoadValue : List ℕ → ℕ → ℕ → ℕ → ℕ → ℕ → Relation → Relation → Type 0
LoadValue blocks p q k v o P R = (y : ℕ) → y + k ≡ v → k < length_of blocks y → P q y → R p o

-- by a store: the pair names the block that is written, or lies in the row that is stored
abbrev pub StoreBase : List ℕ → ℕ → ℕ → ℕ → ℕ → ℕ → Relation → Relation → Type 0
StoreBase blocks p k q v o P R = p ≡ v → StoreInto blocks o k q P R

abbrev pub PutAt : List ℕ → ℕ → ℕ → ℕ → Relation → Relation → Type 0
PutAt blocks y k o P R = k < length_of blocks y → R (y + k) o

abbrev pub PutAtEach : List ℕ → ℕ → ℕ → ℕ → Relation → Relation → Type 0
PutAtEach blocks p k o P R = (y : ℕ) → P p y → PutAt blocks y k o P R

abbrev pub StoreValue : List ℕ → ℕ → ℕ → ℕ → ℕ → ℕ → Relation → Relation → Type 0
StoreValue blocks p k q v o P R = q ≡ v → PutAtEach blocks p k o P R

-- what the pair (v, o) asks by the rule from the rows P is in the rows R
abbrev pub Handed : List ℕ → Constraint → ℕ → ℕ → Relation → Relation → Type 0
Handed blocks (address p x) v o P R = Unit {0}
Handed blocks (copy p q) v o P R = q ≡ v → R p o
Handed blocks (load p q k) v o P R = LoadBase blocks p q k v o P R × LoadValue blocks p q k v o P R
Handed blocks (store p k q) v o P R = StoreBase blocks p k q v o P R × StoreValue blocks p k q v o P R
