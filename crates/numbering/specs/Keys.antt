-- Keys at positions: sameness, first positions, and the chains of a hash table.
use Rattle.std.specs.Prelude.{◌≡◌, ℕ, ◌%◌, ◌<◌, Bool, true, List, Option, None, ◌≢◌, slice_index, slice_index_or}
use Rattle.std.specs.Option.{ForSome}

-- sameness of the keys at the positions below n is an equivalence
pub record Equivalence (n : ℕ) (same : ℕ → ℕ → Bool) : Type 0 where
  pub reflexive : (i : ℕ) → i < n → same i i ≡ true
  pub symmetric : (i j : ℕ) → i < n → j < n → same i j ≡ true → same j i ≡ true
  pub transitive : (i j k : ℕ) → i < n → j < n → k < n → same i j ≡ true → same j k ≡ true → same i k ≡ true

-- same keys hash alike
abbrev pub HashAlike : ℕ → (ℕ → ℕ → Bool) → (ℕ → ℕ) → Type 0
HashAlike n same hash = (i j : ℕ) → i < n → j < n → same i j ≡ true → hash i ≡ hash j

-- f is the first position with the same key as position i
pub record IsFirst (same : ℕ → ℕ → Bool) (i f : ℕ) : Type 0 where
  pub alike : same f i ≡ true
  pub least : (j : ℕ) → j < f → same j i ≢ true

-- no earlier position has the key of position i
abbrev pub Fresh : (ℕ → ℕ → Bool) → ℕ → Type 0
Fresh same i = (j : ℕ) → j < i → same j i ≢ true

-- h is the last position below i with P, or None where there is none
pub record Latest (P : ℕ → Type 0) (i : ℕ) (h : Option ℕ) : Type 0 where
  pub within : ForSome h (λ p. p < i)
  pub holds : ForSome h P
  pub none : (j : ℕ) → j < i → P j → ForSome h (λ p. p < j) → ⊥
  deriving IsProp as Latest-prop

-- position j is the first of its key, and its key falls into bucket b of 256
abbrev pub Entry : (ℕ → ℕ → Bool) → (ℕ → ℕ) → ℕ → ℕ → Type 0
Entry same hash b j = Fresh same j × (hash j % 256 ≡ b)

-- each link leads to the entry of the same bucket before it
abbrev pub Linked : (ℕ → ℕ → Bool) → (ℕ → ℕ) → List (Option ℕ) → ℕ → Type 0
Linked same hash links i =
    (r : ℕ) → r < i → Fresh same r → Latest (Entry same hash (hash r % 256)) r (slice_index_or links r None)

-- each bucket's head is its last entry below i
abbrev pub Headed : (ℕ → ℕ → Bool) → (ℕ → ℕ) → List (Option ℕ) → ℕ → Type 0
Headed same hash heads i = (b : ℕ) → b < 256 → Latest (Entry same hash b) i (slice_index_or heads b None)

-- the first i positions are numbered
abbrev pub Numbered : (ℕ → ℕ → Bool) → List ℕ → ℕ → Type 0
Numbered same first i = (j : ℕ) → j < i → IsFirst same j (slice_index first j)
