-- A pair handed on, and the rules with it.
use Rattle.std.proofs.Common.{◌≡◌, ℕ, ◌+◌, ◌<◌, ◌⊎◌, List, ⊎_elim}
use Rattle.constraints.specs.Rows.{Relation}
use Rattle.constraints.specs.Constraint.{length_of}
use Rattle.constraints.specs.declared.constraint.Constraint.{Constraint}
use Rattle.constraints.specs.declared.constraint.Constraint.TheVariants.{Address as address, Copy as copy, Load as load, Store as store}
use Rattle.walks.specs.Rules.{Rule}
use Rattle.difference.specs.Handed.{Handed}

-- from fewer rows, into more
pub handed_moved : (blocks : List ℕ) (c : Constraint) (v o : ℕ) (P P' R R' : Relation) → ((x y : ℕ) → P x y → P' x y)
    → ((x y : ℕ) → R x y → R' x y) → Handed blocks c v o P' R → Handed blocks c v o P R'
handed_moved blocks (address p x) v o P P' R R' less more h = h
handed_moved blocks (copy p q) v o P P' R R' less more h = λ e. more p o (h e)
handed_moved blocks (load p q k) v o P P' R R' less more (base, value) =
    (λ e b x t. more p x (base e b x (less (o + k) x t)), λ y e b t. more p o (value y e b (less q y t)))
handed_moved blocks (store p k q) v o P P' R R' less more (base, value) =
    (λ e b x t. more (o + k) x (base e b x (less q x t)), λ e y t b. more (y + k) o (value e y (less p y t) b))

-- with one pair more
abbrev pub Plus : Relation → ℕ → ℕ → Relation
Plus Q v o x y = Q x y ⊎ ((x ≡ v) × (y ≡ o))

-- the rule was met from Q into P; the pair (v, o) of P is handed on into R: the rule is met with it
module _ (blocks : List ℕ) (Q P R : Relation) (v o : ℕ) (low : (x y : ℕ) → Q x y → P x y) (held : P v o) (grows : (x y : ℕ) → P x y → R x y) where
  still : (x y : ℕ) → Plus Q v o x y → P x y
  still x y h = ⊎_elim (low x y) (λ e. rw (e.0, e.1) held) h

  pub rule_plus : (c : Constraint) → Rule blocks c Q P → Handed blocks c v o P R → Rule blocks c (Plus Q v o) R
  rule_plus (address p x) m h = grows p x m
  rule_plus (copy p q) m h = λ x t. ⊎_elim (λ old. grows p x (m x old)) (λ e. rw e.1 (h e.0)) t
  rule_plus (load p q k) m (base, value) = λ y x s b t. ⊎_elim
      (λ old. ⊎_elim (λ old'. grows p x (m y x old b old')) (λ e. rw e.1 (value y e.0 b (low q y old))) t)
      (λ e. let b' : k < length_of blocks o = rw e.1 at b in base e.0 b' x (rw e.1 at (still (y + k) x t)))
      s
  rule_plus (store p k q) m (base, value) = λ y x s b t. ⊎_elim
      (λ old. ⊎_elim (λ old'. grows (y + k) x (m y x old b old')) (λ e. rw e.1 (value e.0 y (low p y old) b)) t)
      (λ e. let b' : k < length_of blocks o = rw e.1 at b in rw e.1 (base e.0 b' x (still q x t)))
      s
