-- Words from constraints, the other way round of `decode`.
use Rattle.std.specs.Prelude.{◌≡◌, ℕ, ◌+◌, ◌*◌, ◌/◌, ◌%◌, ◌^◌, ◌<◌, cond, ◌&&◌, Some, None, Option, nat_lt}
use Rattle.constraints.specs.Constraint.{Constraint, address, copy, load, store, kind, offset}
use Rattle.constraints.specs.declared.constraint.Kind.{Kind}
use Rattle.constraints.specs.declared.constraint.Kind.TheVariants as Kinds

-- the number of a kind in a word
abbrev pub kind_number : Kind → ℕ
kind_number Kinds.Address = 0
kind_number Kinds.Copy = 1
kind_number Kinds.Load = 2
kind_number Kinds.Store = 3

-- the word with these fields: kind, left variable, offset, right variable
abbrev pub word_of : ℕ → ℕ → ℕ → ℕ → ℕ
word_of n p k q = n * 0x4000_0000 + k * 0x0800_0000 + p * 4096 + q

-- the word, where the variables have at most 12 bits and the offset at most 3
unfoldable pub written : ℕ → ℕ → ℕ → ℕ → Option ℕ
written n p k q = cond (nat_lt p 4096 && nat_lt q 4096 && nat_lt k 8) (Some (word_of n p k q)) None

abbrev pub encode : Constraint → Option ℕ
encode (address p o) = written 0 p 0 o
encode (copy p q) = written 1 p 0 q
encode (load p q k) = written 2 p k q
encode (store p k q) = written 3 p k q

-- a word of 32 bits without a bit that its constraint does not use
pub record PlainWord (w : ℕ) : Type 0 where
  pub word_bits : w < 2 ^ 32
  pub zero_bits : w / 0x0100_0000 % 8 ≡ 0
  pub no_offset : kind w < 2 → offset w ≡ 0
