-- A matrix of bits in words of 32 bits, w words to a row.
use Rattle.std.specs.Prelude.{◌≡◌, ℕ, ◌+◌, ◌*◌, ◌/◌, ◌%◌, ◌^◌, ◌<◌, Bool, true, ◌||◌, ◌≢◌, List, ◌==◌, slice_index}
use Rattle.std.specs.List.{between}

-- bit k of a word
abbrev pub bit_of : ℕ → ℕ → Bool
bit_of word k = word / 2 ^ k % 2 == 1

-- bit v of a row
abbrev pub row_bit : List ℕ → ℕ → Bool
row_bit row v = bit_of (slice_index row (v / 32)) (v % 32)

-- the bit of row u and column v
abbrev pub bit_at : ℕ → List ℕ → ℕ → ℕ → Bool
bit_at w m u v = bit_of (slice_index m (w * u + v / 32)) (v % 32)

-- the same in a matrix of 256 columns
abbrev pub bit : List ℕ → ℕ → ℕ → Bool
bit = bit_at 8

-- the words of row u
abbrev pub row_at : ℕ → List ℕ → ℕ → List ℕ
row_at w m u = between (w * u) (w * u + w) m

-- m' is m with the bit of row u and column v set
pub record Put (w : ℕ) (m m' : List ℕ) (u v : ℕ) : Type 0 where
  pub here : bit_at w m' u v ≡ true
  pub column : (y : ℕ) → y < 32 * w → y ≢ v → bit_at w m' u y ≡ bit_at w m u y
  pub row : (x y : ℕ) → y < 32 * w → x ≢ u → bit_at w m' x y ≡ bit_at w m x y

-- m' is m with the bits of a row joined to row u
pub record Joined (w : ℕ) (m m' row : List ℕ) (u : ℕ) : Type 0 where
  pub joined : (v : ℕ) → v < 32 * w → bit_at w m' u v ≡ (bit_at w m u v || row_bit row v)
  pub others : (x v : ℕ) → v < 32 * w → x ≢ u → bit_at w m' x v ≡ bit_at w m x v

-- the first n words have no bit set
abbrev pub Blank : ℕ → List ℕ → Type 0
Blank n m = (i : ℕ) → i < n → slice_index m i ≡ 0
