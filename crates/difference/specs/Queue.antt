-- The queue of pairs that are not yet handed on.
use Rattle.std.specs.Prelude.{◌≡◌, ℕ, ◌+◌, ◌<◌, ◌≤◌, T, ◌⊎◌, length, slice_index_or}
use Rattle.constraints.specs.Rows.{Rows, Relation, ◌⊑◌, pairs, total}
use Rattle.constraints.specs.Constraint.{System, constraint}
use Rattle.walks.specs.Rules.{Rule}
use Rattle.difference.specs.declared.pending.Pair.{Pair}
use Rattle.difference.specs.declared.pending.Pending.{Pending}

-- the pair at place i
abbrev pub pair_at : Pending → ℕ → Pair
pair_at q i = slice_index_or q.pairs i (record { variable = 0; object = 0 })

abbrev pub Pends : Pending → Relation
Pends q v o = (i : ℕ) × (q.head ≤ i) × (i < q.tail) × ((pair_at q i).variable ≡ v) × ((pair_at q i).object ≡ o)

abbrev pub EmptyQueue : Pending → Type 0
EmptyQueue q = (q.head ≡ 0) × (q.tail ≡ 0)

-- the pair stands first
pub record Heads (q : Pending) (pair : Pair) : Type 0 where
  pub some : q.head < q.tail
  pub is : pair_at q q.head ≡ pair

-- one pair more at the end
pub record Pushed (q q' : Pending) (pair : Pair) : Type 0 where
  pub stays : (x y : ℕ) → Pends q x y → Pends q' x y
  pub comes : Pends q' pair.variable pair.object
  pub only : (x y : ℕ) → Pends q' x y → Pends q x y ⊎ ((x ≡ pair.variable) × (y ≡ pair.object))
  pub head : q'.head ≡ q.head
  pub tail : q'.tail ≡ q.tail + 1

-- while the rows grow from P to P' each new pair comes to the queue
pub record Noted (n m : ℕ) (P P' : Rows) (q q' : Pending) : Type 0 where
  pub same : m ≡ n
  pub grows : P ⊑ P'
  pub held : ((v o : ℕ) → Pends q v o → T (P v o)) → (v o : ℕ) → Pends q' v o → T (P' v o)
  pub new : (v o : ℕ) → T (P' v o) → T (P v o) ⊎ Pends q' v o
  pub stays : (v o : ℕ) → Pends q v o → Pends q' v o
  pub head : q'.head ≡ q.head
  pub counts : q'.tail + total P ≡ q.tail + total P'

-- no more pairs came than are held: so there is a place for a new one
abbrev pub Counted : Rows → Pending → Type 0
Counted P q = q.tail ≤ total P

-- the pairs that are handed on
abbrev pub Done : Rows → Pending → Relation
Done P q v o = T (P v o) × (Pends q v o → ⊥)

-- what the first n words ask of the pairs handed on is there
pub record Ready (sys : System) (n : ℕ) (P : Rows) (q : Pending) : Type 0 where
  pub short : n ≤ length sys.words
  pub held : (v o : ℕ) → Pends q v o → T (P v o)
  pub counted : Counted P q
  pub asked : (j : ℕ) → j < n → Rule sys.blocks (constraint sys j) (Done P q) (pairs P)

-- nothing waits
pub record Idle (P : Rows) (q : Pending) : Type 0 where
  pub none : (v o : ℕ) → Pends q v o → ⊥
  pub counted : Counted P q
