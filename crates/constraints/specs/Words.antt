-- Which words may stand in a list, as a computed test.
use Rattle.std.specs.Prelude.{ℕ, zero, suc, ◌/◌, ◌%◌, ◌^◌, Bool, true, ◌&&◌, List, ◌==◌, nat_lt}
use Rattle.constraints.specs.Constraint.{Constraint, address, copy, load, store, kind, left, offset, right, variables, length_of}

-- what the kind asks of the offset and of the right variable
abbrev pub kind_rule : List ℕ → ℕ → ℕ → ℕ → Bool
kind_rule blocks zero k q = k == 0 && nat_lt 0 (length_of blocks q)
kind_rule blocks (suc zero) k q = k == 0
kind_rule blocks (suc (suc n)) k q = true

unfoldable pub is_word : List ℕ → ℕ → Bool
is_word blocks w =
    nat_lt w (2 ^ 32)
    && (nat_lt (left w) (variables blocks)
    && (nat_lt (right w) (variables blocks) && (w / 0x0100_0000 % 8 == 0 && kind_rule blocks (kind w) (offset w) (right w))))

-- what a constraint names: variables, and an object where it takes an address
abbrev pub names : List ℕ → Constraint → Bool
names blocks (address p o) = nat_lt p (variables blocks) && nat_lt 0 (length_of blocks o)
names blocks (copy p q) = nat_lt p (variables blocks) && nat_lt q (variables blocks)
names blocks (load p q k) = nat_lt p (variables blocks) && nat_lt q (variables blocks)
names blocks (store p k q) = nat_lt p (variables blocks) && nat_lt q (variables blocks)
