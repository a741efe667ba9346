-- What stands in a list, and tests over its elements.
use Rattle.std.specs.Prelude.{◌≡◌, ℕ, ◌+◌, Bool, false, cond, ◌||◌, ◌⊎◌, List, [], ◌∷◌}

infix 40 ◌∈◌
abbrev pub ◌∈◌ : {X : Type 0} → X → List X → Type 0
x ∈ [] = ⊥
x ∈ (y ∷ ys) = (x ≡ y) ⊎ (x ∈ ys)

infix 40 ◌⊆◌
abbrev pub ◌⊆◌ : {X : Type 0} → List X → List X → Type 0
◌⊆◌ {X} xs ys = (x : X) → x ∈ xs → x ∈ ys

-- some element passes the test
abbrev pub any_of : {X : Type 0} → (X → Bool) → List X → Bool
any_of f [] = false
any_of f (x ∷ xs) = f x || any_of f xs

-- how many elements pass the test
abbrev pub count_of : {X : Type 0} → (X → Bool) → List X → ℕ
count_of f [] = 0
count_of f (x ∷ xs) = cond (f x) 1 0 + count_of f xs
