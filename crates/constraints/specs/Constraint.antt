-- Inclusion constraints over variables, and their solutions.
use Rattle.std.specs.Prelude.{◌≡◌, ℕ, zero, suc, ◌+◌, ◌/◌, ◌%◌, ◌^◌, ◌<◌, ◌≤◌, Bool, false, cond, T, List, [], ◌∷◌, length, take, ◌==◌, slice_index}
use Rattle.constraints.specs.Finite.{any}
use Rattle.constraints.specs.Rows.{Rows, Relation, pairs, ◌⊑◌}
-- the code's enum: address p o, copy p q, load p q k, store p k q; p left, q right, o the object, k the offset
pub use Rattle.constraints.specs.declared.constraint.Constraint.{Constraint}
pub use Rattle.constraints.specs.declared.constraint.Constraint.TheVariants.{Address as address, Copy as copy, Load as load, Store as store}

abbrev pub left_of : Constraint → ℕ
left_of (address p o) = p
left_of (copy p q) = p
left_of (load p q k) = p
left_of (store p k q) = p

-- kind (0 to 3), left variable, offset, right variable
abbrev pub of_kind : ℕ → ℕ → ℕ → ℕ → Constraint
of_kind zero p k q = address p q
of_kind (suc zero) p k q = copy p q
of_kind (suc (suc zero)) p k q = load p q k
of_kind (suc (suc (suc n))) p k q = store p k q

-- a word of 32 bits: 31-30 kind, 29-27 offset, 26-24 zero, 23-12 left variable, 11-0 right variable
abbrev pub kind : ℕ → ℕ
kind w = w / 0x4000_0000 % 4

abbrev pub offset : ℕ → ℕ
offset w = w / 0x0800_0000 % 8

abbrev pub left : ℕ → ℕ
left w = w / 4096 % 4096

abbrev pub right : ℕ → ℕ
right w = w % 4096

unfoldable pub decode : ℕ → Constraint
decode w = of_kind (kind w) (left w) (offset w) (right w)

pub record System : Type 0 where
  pub blocks : List ℕ
  pub words : List ℕ

-- the number of variables in the blocks
abbrev pub variables : List ℕ → ℕ
variables [] = 0
variables (n ∷ blocks) = n + variables blocks

abbrev pub var_count : System → ℕ
var_count sys = variables sys.blocks

abbrev pub length_from : ℕ → List ℕ → ℕ → ℕ
length_from start [] o = 0
length_from start (n ∷ blocks) o = cond (o == start) n (length_from (start + n) blocks o)

-- the length of the block that starts at o, 0 where none starts; blocks follow each other from 0
unfoldable pub length_of : List ℕ → ℕ → ℕ
length_of blocks o = length_from 0 blocks o

-- a constraint's rule
abbrev pub Meets : List ℕ → Constraint → Relation → Type 0
Meets blocks (address p o) R = R p o
Meets blocks (copy p q) R = (o : ℕ) → R q o → R p o
Meets blocks (load p q k) R = (o x : ℕ) → R q o → k < length_of blocks o → R (o + k) x → R p x
Meets blocks (store p k q) R = (o x : ℕ) → R p o → k < length_of blocks o → R q x → R (o + k) x

abbrev pub constraint : System → ℕ → Constraint
constraint sys i = decode (slice_index sys.words i)

-- the constraint stands among the system's words
abbrev pub Has : System → Constraint → Type 0
Has sys c = (i : ℕ) × (i < length sys.words) × (constraint sys i ≡ c)

-- some constraint of the system passes the test f
abbrev pub some_constraint : System → (Constraint → Bool) → Bool
some_constraint sys f = any (length sys.words) (λ i. f (constraint sys i))

-- the relation meets every constraint
abbrev pub Closed : System → Relation → Type 0
Closed sys R = (c : Constraint) → Has sys c → Meets sys.blocks c R

-- the rows meet the rule of every word
abbrev pub Solves : System → Rows → Type 0
Solves sys R = Closed sys (pairs R)

-- a solution: a row for each variable, a set of objects, that meet the rule of every word
pub record Solution (sys : System) (R : Rows) : Type 0 where
  pub typed : (v o : ℕ) → T (R v o) → (v < var_count sys) × (0 < length_of sys.blocks o)
  pub solves : Solves sys R

-- the solution that is contained, row by row, in every solution
pub record Smallest (sys : System) (R : Rows) : Type 0 where
  pub solution : Solution sys R
  pub contained : (Q : Rows) → Solution sys Q → R ⊑ Q

abbrev pub takes : ℕ → Constraint → Bool
takes o (address p q) = q == o
takes o (copy p q) = false
takes o (load p q k) = false
takes o (store p k q) = false

-- the object is the right side of some address constraint
unfoldable pub taken : System → ℕ → Bool
taken sys o = some_constraint sys (takes o)

-- the system with its first n words alone
abbrev pub first : ℕ → System → System
first n sys = record { blocks = sys.blocks; words = take n sys.words }

-- what a word of a system must be
pub record WellFormed (blocks : List ℕ) (w : ℕ) : Type 0 where
  pub left_in : left w < variables blocks
  pub right_in : right w < variables blocks
  pub word_bits : w < 2 ^ 32
  pub zero_bits : w / 0x0100_0000 % 8 ≡ 0
  pub no_offset : kind w < 2 → offset w ≡ 0
  pub object_right : kind w ≡ 0 → 0 < length_of blocks (right w)

pub record Valid (sys : System) : Type 0 where
  pub sized : (i : ℕ) → i < length sys.blocks → (0 < slice_index sys.blocks i) × (slice_index sys.blocks i ≤ 8)
  pub few : variables sys.blocks ≤ 256
  pub few_words : length sys.words ≤ 512
  pub formed : (i : ℕ) → i < length sys.words → WellFormed sys.blocks (slice_index sys.words i)
