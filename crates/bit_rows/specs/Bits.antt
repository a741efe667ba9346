-- A set of pairs as bits of words.
use Rattle.std.specs.Prelude.{ℕ, ◌+◌, ◌*◌, ◌/◌, ◌%◌, ◌^◌, Bool, cond, ◌&&◌, List, ◌++◌, length, drop, replicate, ◌==◌, bit_or, nat_le, slice_index, slice_set}
use Rattle.constraints.specs.Rows.{Rows}
use Rattle.rows.specs.Stores.{in_range}

-- bit k of a word
abbrev pub bit : ℕ → ℕ → Bool
bit w k = w / 2 ^ k % 2 == 1

-- the word that has the bit of (v, o)
abbrev pub word_of : ℕ → ℕ → ℕ
word_of v o = 8 * v + o / 32

abbrev pub bit_pairs : List ℕ → Rows
bit_pairs ws v o = nat_le 2048 (length ws) && (in_range v o && bit (slice_index ws (word_of v o)) (o % 32))

-- the words with the bit of (v, o) set
abbrev pub put_bit : List ℕ → ℕ → ℕ → List ℕ
put_bit ws v o = slice_set ws (word_of v o) (bit_or (slice_index ws (word_of v o)) (2 ^ (o % 32)))

-- the words with the first n set to 0
unfoldable pub cleared : ℕ → List ℕ → List ℕ
cleared n ws = replicate n 0 ++ drop n ws

abbrev pub bit_room : List ℕ → ℕ
bit_room ws = cond (nat_le 2048 (length ws)) 65536 0

-- the words that the pairs do not take
abbrev pub bit_spare : List ℕ → List ℕ
bit_spare ws = cond (nat_le 2048 (length ws)) (drop 2048 ws) ws
