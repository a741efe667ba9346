-- Keys that are lists of numbers: sameness and hash.
use Rattle.std.specs.Prelude.{ℕ, ◌+◌, ◌*◌, ◌%◌, ◌^◌, Bool, List, fold}
use Rattle.std.specs.Str.{bytes_eq}

-- the lists at two positions are equal
abbrev pub same_list : (ℕ → List ℕ) → ℕ → ℕ → Bool
same_list key i j = bytes_eq (key i) (key j)

abbrev pub mix : ℕ → ℕ → ℕ
mix h x = (h * 31 % 2 ^ 32 + x) % 2 ^ 32

abbrev pub hash_of : List ℕ → ℕ
hash_of xs = fold mix 0 xs
