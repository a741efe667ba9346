-- Laws of what stands in a list.
use Rattle.std.proofs.Common.{◌≡◌, ℕ, zero, suc, ◌+◌, ◌<◌, Bool, true, false, cond, ◌||◌, ltb, ◌⊎◌, List, [], ◌∷◌, ◌++◌, map, length, get_or, Some, sym, refl, ap, ◌∙◌, inl, inr, not-suc-le-zero, arith}
use Rattle.std.specs.List.{flat_map, AllByRecursion, slice_get}
use Rattle.std.proofs.lemmas.Bool.{or_parts, or_from, or_cases, or_left, or_right, lt-ltb, false≢true}
use Rattle.books.specs.Members.{◌∈◌, ◌⊆◌, any_of, count_of}
use Rattle.books.proofs.Options.{none_some, some_same}

-- what stands at a position of a mapped list
pub at_map : {X : Type 0} (f : X → ℕ) (xs : List X) (i : ℕ) → i < length (map f xs) → (x : X) × (x ∈ xs) × (get_or (map f xs) i 0 ≡ f x)
at_map f [] i lt = absurd (not-suc-le-zero lt)
at_map f (x ∷ xs) zero lt = (x, inl refl, refl)
at_map f (x ∷ xs) (suc i) lt = let (y, y_in, e) = at_map f xs i (omega arith) in (y, inr y_in, e)

pub map_at : {X : Type 0} (f : X → ℕ) (x : X) (xs : List X) → x ∈ xs → (i : ℕ) × (i < length (map f xs)) × (get_or (map f xs) i 0 ≡ f x)
map_at f x [] h = absurd h
map_at f x (y ∷ ys) (inl e) = (zero, omega arith, ap f (sym e))
map_at f x (y ∷ ys) (inr h) = let (i, lt, e) = map_at f x ys h in (suc i, omega arith, e)

pub in_left : {X : Type 0} (x : X) (xs ys : List X) → x ∈ xs → x ∈ (xs ++ ys)
in_left x [] ys h = absurd h
in_left x (y ∷ xs) ys (inl e) = inl e
in_left x (y ∷ xs) ys (inr h) = inr (in_left x xs ys h)

pub in_right : {X : Type 0} (x : X) (xs ys : List X) → x ∈ ys → x ∈ (xs ++ ys)
in_right x [] ys h = h
in_right x (y ∷ xs) ys h = inr (in_right x xs ys h)

pub in_either : {X : Type 0} (x : X) (xs ys : List X) → x ∈ (xs ++ ys) → (x ∈ xs) ⊎ (x ∈ ys)
in_either x [] ys h = inr h
in_either x (y ∷ xs) ys (inl e) = inl (inl e)
in_either x (y ∷ xs) ys (inr h) = elim (in_either x xs ys h) [ inl l ↦ inl (inr l) | inr r ↦ inr r ]

-- what stands in a joined list stands in one of the parts
pub in_joined : {X A : Type 0} (f : X → List A) (a : A) (x : X) (xs : List X) → x ∈ xs → a ∈ f x → a ∈ flat_map f xs
in_joined f a x [] h k = absurd h
in_joined f a x (y ∷ xs) (inl e) k = in_left a (f y) (flat_map f xs) (rw e at k)
in_joined f a x (y ∷ xs) (inr h) k = in_right a (f y) (flat_map f xs) (in_joined f a x xs h k)

pub joined_in : {X A : Type 0} (f : X → List A) (a : A) (xs : List X) → a ∈ flat_map f xs → (x : X) × (x ∈ xs) × (a ∈ f x)
joined_in f a [] h = absurd h
joined_in f a (y ∷ xs) h =
    elim (in_either a (f y) (flat_map f xs) h) [
      | inl l ↦ (y, inl refl, l)
      | inr r ↦ let (x, x_in, k) = joined_in f a xs r in (x, inr x_in, k)
    ]

pub joined_within : {X A : Type 0} (f : X → List A) (xs ys : List X) → xs ⊆ ys → flat_map f xs ⊆ flat_map f ys
joined_within f xs ys sub a h = let (x, x_in, k) = joined_in f a xs h in in_joined f a x ys (sub x x_in) k

pub all_in : {X : Type 0} (P : X → Type 0) (x : X) (xs : List X) → AllByRecursion P xs → x ∈ xs → P x
all_in P x [] all h = absurd h
all_in P x (y ∷ ys) (p, all) (inl e) = rw e p
all_in P x (y ∷ ys) (p, all) (inr h) = all_in P x ys all h

pub in_map : {X Y : Type 0} (f : X → Y) (y : Y) (xs : List X) → y ∈ map f xs → (x : X) × (x ∈ xs) × (y ≡ f x)
in_map f y [] h = absurd h
in_map f y (x ∷ xs) (inl e) = (x, inl refl, e)
in_map f y (x ∷ xs) (inr h) = let (z, z_in, e) = in_map f y xs h in (z, inr z_in, e)

pub nth_in : {X : Type 0} (xs : List X) (i : ℕ) (x : X) → slice_get xs i ≡ Some x → x ∈ xs
nth_in [] i x e = absurd (none_some e)
nth_in (y ∷ ys) zero x e = inl (sym (some_same e))
nth_in (y ∷ ys) (suc i) x e = inr (nth_in ys i x e)

-- some element passes the test, or none does
pub any_elim : {X : Type 0} (f : X → Bool) (xs : List X) → any_of f xs ≡ true → (x : X) × (x ∈ xs) × (f x ≡ true)
any_elim f [] e = absurd (false≢true e)
any_elim f (x ∷ xs) e =
    elim (or_cases (f x) (any_of f xs) e) [
      | inl here ↦ (x, inl refl, here)
      | inr later ↦ let (y, y_in, is) = any_elim f xs later in (y, inr y_in, is)
    ]

pub any_intro : {X : Type 0} (f : X → Bool) (x : X) (xs : List X) → x ∈ xs → f x ≡ true → any_of f xs ≡ true
any_intro f x [] h e = absurd h
any_intro f x (y ∷ ys) (inl same) e = or_left (f y) (any_of f ys) (rw same at e)
any_intro f x (y ∷ ys) (inr h) e = or_right (f y) (any_of f ys) (any_intro f x ys h e)

pub none_elim : {X : Type 0} (f : X → Bool) (x : X) (xs : List X) → any_of f xs ≡ false → x ∈ xs → f x ≡ false
none_elim f x [] e h = absurd h
none_elim f x (y ∷ ys) e (inl same) = rw same (or_parts (f y) (any_of f ys) e).0
none_elim f x (y ∷ ys) e (inr h) = none_elim f x ys (or_parts (f y) (any_of f ys) e).1 h

pub none_intro : {X : Type 0} (f : X → Bool) (xs : List X) → ((x : X) → x ∈ xs → f x ≡ false) → any_of f xs ≡ false
none_intro f [] all = refl
none_intro f (x ∷ xs) all = or_from (f x) (any_of f xs) (all x (inl refl)) (none_intro f xs (λ y y_in. all y (inr y_in)))

pub count_none : {X : Type 0} (f : X → Bool) (xs : List X) → ((x : X) → x ∈ xs → f x ≡ false) → count_of f xs ≡ 0
count_none f [] all = refl
count_none f (x ∷ xs) all =
    let here : f x ≡ false = all x (inl refl) in
    rw here (omega (arith, count_none f xs (λ y y_in. all y (inr y_in))))

pub count_some : {X : Type 0} (f : X → Bool) (xs : List X) → ltb 0 (count_of f xs) ≡ any_of f xs
count_some f [] = refl
count_some f (x ∷ xs) = go (f x) (count_some f xs)
  where
    go : (b : Bool) → ltb 0 (count_of f xs) ≡ any_of f xs → ltb 0 (cond b 1 0 + count_of f xs) ≡ (b || any_of f xs)
    go true ih = lt-ltb 0 (1 + count_of f xs) (omega arith)
    go false ih = let same : 0 + count_of f xs ≡ count_of f xs = omega arith in ap (ltb 0) same ∙ ih
