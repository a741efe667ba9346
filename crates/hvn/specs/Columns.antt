-- Values as numbers: 0 for nothing, 1 + c for column c. The columns are 2,560 sources, then 256 positions of sets.
use Rattle.std.specs.Prelude.{◌≡◌, ℕ, ◌+◌, ◌-◌, ◌*◌, ◌/◌, ◌^◌, ◌<◌, ◌≤◌, Bool, true, false, cond, ◌&&◌, ◌||◌, ◌≢◌, List, Option, Some, None, length, nat_eq, nat_lt, slice_index, slice_index_or}
use Rattle.graphs.specs.Matrix.{bit_of, bit, bit_at}
use Rattle.constraints.specs.Finite.{any}
use Rattle.constraints.specs.declared.constraint.Constraint.{Constraint}
use Rattle.constraints.specs.declared.constraint.Constraint.TheVariants.{Address as address, Copy as copy, Load as load, Store as store}
use Rattle.constraints.specs.Constraint.{decode}
use Rattle.flows.specs.Names.{NamesBelow}

-- bit c of row k
abbrev pub in_row : List ℕ → ℕ → ℕ → Bool
in_row rows k c = nat_lt c 2816 && bit_at 88 rows k c

abbrev pub SameRow : (ℕ → ℕ → Bool) → ℕ → ℕ → Type 0
SameRow b i j = (c : ℕ) → b i c ≡ b j c

-- the number of row k: of no column, of one, or of the first row with the same columns
pub data Settled (b : ℕ → ℕ → Bool) (k x : ℕ) : Type 0 where
  empty : ((c : ℕ) → b k c ≢ true) → x ≡ 0 → Settled b k x
  lone : (c : ℕ) → b k c ≡ true → ((d : ℕ) → b k d ≡ true → d ≡ c) → x ≡ c + 1 → Settled b k x
  crowd : (c d : ℕ) → b k c ≡ true → b k d ≡ true → c ≢ d
      → (f : ℕ) → f ≤ k → SameRow b f k → ((j : ℕ) → j < f → SameRow b j k → ⊥) → x ≡ 2561 + f → Settled b k x

-- u is in the component of v, by the matrix of what reaches what
abbrev pub member : List ℕ → ℕ → ℕ → Bool
member reach v u = bit reach u v && bit reach v u

-- the number of the value that a copy from q brings to the component of v
abbrev pub copied : List ℕ → List ℕ → ℕ → ℕ → ℕ
copied reach number v q = cond (member reach v q) 0 (slice_index number q)

-- the number of a column, 0 for none
abbrev pub column_number : Option ℕ → ℕ
column_number None = 0
column_number (Some c) = c + 1

-- the number of what a constraint brings to the component of v
abbrev pub element_number : List ℕ → List ℕ → ℕ → Constraint → ℕ
element_number reach number v (address p o) = cond (member reach v p) (1 + o) 0
element_number reach number v (copy p q) = cond (member reach v p) (copied reach number v q) 0
element_number reach number v (load p q k) = cond (member reach v p) (513 + 8 * q + k) 0
element_number reach number v (store p k q) = 0

-- some word brings column c to the component of v
abbrev pub brought : List ℕ → List ℕ → List ℕ → ℕ → ℕ → ℕ → Bool
brought words reach number v i c = any i (λ j. nat_eq (element_number reach number v (decode (slice_index words j))) (c + 1))

-- u is an open member of the component of v
abbrev pub open_in : List Bool → List ℕ → ℕ → ℕ → Bool
open_in flags reach v u = slice_index_or flags u false && member reach v u

-- f is the first below n that passes
pub record FirstOf (n : ℕ) (test : ℕ → Bool) (f : ℕ) : Type 0 where
  pub inside : f < n
  pub passes : test f ≡ true
  pub least : (j : ℕ) → j < f → test j ≢ true

abbrev pub NoneOf : ℕ → (ℕ → Bool) → Type 0
NoneOf n test = (j : ℕ) → j < n → test j ≢ true

-- no column of row k from low up to high is set
abbrev pub NoneFrom : List ℕ → ℕ → ℕ → ℕ → Type 0
NoneFrom rows k low high = (c : ℕ) → low ≤ c → c < high → bit_at 88 rows k c ≢ true

-- c is the lowest column of row k from low on
pub record NextColumn (rows : List ℕ) (k low c : ℕ) : Type 0 where
  pub from : low ≤ c
  pub inside : c < 2816
  pub set : bit_at 88 rows k c ≡ true
  pub none : NoneFrom rows k low c

-- b is the lowest bit of a word from bit low on
pub record LowestBit (word low b : ℕ) : Type 0 where
  pub from : low ≤ b
  pub inside : b < 32
  pub set : bit_of word b ≡ true
  pub none : (d : ℕ) → low ≤ d → d < b → bit_of word d ≢ true

-- the words of row k from that of low up to p have no column from low on
abbrev pub NoWordFrom : List ℕ → ℕ → ℕ → ℕ → Type 0
NoWordFrom rows k low p = (j : ℕ) → low / 32 ≤ j → j < p → slice_index rows (88 * k + j) / 2 ^ (low - 32 * j) ≡ 0

-- p is the first word of row k, from that of low on, with a column from low on
pub record NextWord (rows : List ℕ) (k low p : ℕ) : Type 0 where
  pub from : low / 32 ≤ p
  pub inside : p < 88
  pub some : slice_index rows (88 * k + p) / 2 ^ (low - 32 * p) ≢ 0
  pub none : NoWordFrom rows k low p

-- the words name variables below 256
abbrev pub SmallWords : List ℕ → Type 0
SmallWords words = (i : ℕ) → i < length words → NamesBelow 256 (decode (slice_index words i))

-- numbers are 0 or of a column
abbrev pub SmallNumbers : List ℕ → Type 0
SmallNumbers number = (q : ℕ) → slice_index number q < 2817

-- the number x of v, by its row k
pub data RowDone (words : List ℕ) (flags : List Bool) (reach number : List ℕ) (n : ℕ) (rows rows' : List ℕ) (k v x : ℕ) : Type 0 where
  by_open : (f : ℕ) → FirstOf n (open_in flags reach v) f → x ≡ 257 + f
      → ((c : ℕ) → c < 2816 → bit_at 88 rows' k c ≡ bit_at 88 rows k c) → RowDone words flags reach number n rows rows' k v x
  by_row : NoneOf n (open_in flags reach v)
      → ((c : ℕ) → c < 2816 → bit_at 88 rows' k c ≡ (bit_at 88 rows k c || brought words reach number v (length words) c))
      → Settled (in_row rows') k x → RowDone words flags reach number n rows rows' k v x
