-- Passes over a text that count and find.
use Rattle.std.proofs.Common.{◌≡◌, ℕ, zero, suc, ◌+◌, ◌≤◌, Bool, cond, ltb, List, [], ◌∷◌, ◌++◌, length, filter, Some, None, Option, sym, refl, ap, ◌∙◌, arith}
use Rattle.std.specs.List.{flat_map, slice_get}
use Rattle.std.specs.Option.{is_some}
use Rattle.std.proofs.lemmas.List.{length-append}
use Rattle.grammar.specs.declared.item.Place.{Place as PlaceIn}
use Rattle.grammar.specs.Grammar.{Place, Callee, direct, through, Value, address, copy, load, returned, Item, variable, function, assign, store, invoke}
use Rattle.grammar.specs.Meanings.{target_in}
use Rattle.grammar.specs.Parse.{Statement}
use Rattle.units.specs.Statements.{pointer_of, value_pointers, pointers_of}
use Rattle.units.specs.Listing.{pointers_at, as_list}

-- n elements are passed, those that f gives for ss are left
abbrev pub Counted : {S X : Type 0} → (S → List X) → List S → ℕ → List S → Type 0
Counted f all n ss = n + length (flat_map f ss) ≡ length (flat_map f all)

pub counted_more : {S X : Type 0} (f : S → List X) (all : List S) (n m : ℕ) (s : S) (ss : List S) → m ≡ n + length (f s) → Counted f all n (s ∷ ss) → Counted f all m ss
counted_more f all n m s ss e h = omega (arith, e, h, length-append (f s) (flat_map f ss))

-- whether a statement is an indirect call: it has one pointer then, and else none
abbrev pub is_pointed : Statement → Bool
is_pointed s = ltb 0 (length (pointers_at s))

few_of : (c : Callee) → length (pointer_of c) ≤ 1
few_of (direct f) = omega arith
few_of (through p) = omega arith

few_in : (v : Value) → length (value_pointers v) ≤ 1
few_in (address a) = omega arith
few_in (copy q) = omega arith
few_in (load q) = omega arith
few_in (returned c) = few_of c.callee

few : (i : Item) → length (pointers_of i) ≤ 1
few (variable e n) = omega arith
few (function e n k) = omega arith
few (assign p v) = few_in v
few (store p q) = omega arith
few (invoke c) = few_of c.callee

abbrev pub first_of : Option Statement → Option Place
first_of None = None
first_of (Some s) = slice_get (pointers_at s) 0

count_one : (s : Statement) (ss : List Statement) (ps qs : List Place) → length ps ≤ 1 → length ss ≡ length qs → length (cond (ltb 0 (length ps)) (s ∷ ss) ss) ≡ length (ps ++ qs)
count_one s ss [] qs h e = e
count_one s ss (p ∷ []) qs h e = ap suc e
count_one s ss (p ∷ q ∷ ps) qs h e = absurd (omega arith)

pub count_pointed : (ss : List Statement) → length (filter is_pointed ss) ≡ length (flat_map pointers_at ss)
count_pointed [] = refl
count_pointed (s ∷ ss) = count_one s (filter is_pointed ss) (pointers_at s) (flat_map pointers_at ss) (few s.item) (count_pointed ss)

nth_one : (s : Statement) (ss : List Statement) (ps qs : List Place) (i : ℕ) → length ps ≤ 1 → ps ≡ pointers_at s → ((j : ℕ) → first_of (slice_get ss j) ≡ slice_get qs j) →
    first_of (slice_get (cond (ltb 0 (length ps)) (s ∷ ss) ss) i) ≡ slice_get (ps ++ qs) i
nth_one s ss [] qs i h e rest = rest i
nth_one s ss (p ∷ []) qs zero h e rest = ap (λ (xs : List Place). slice_get xs 0) (sym e)
nth_one s ss (p ∷ []) qs (suc i) h e rest = rest i
nth_one s ss (p ∷ q ∷ ps) qs i h e rest = absurd (omega arith)

pub nth_pointed : (ss : List Statement) (i : ℕ) → first_of (slice_get (filter is_pointed ss) i) ≡ slice_get (flat_map pointers_at ss) i
nth_pointed [] i = refl
nth_pointed (s ∷ ss) i = nth_one s (filter is_pointed ss) (pointers_at s) (flat_map pointers_at ss) i (few s.item) refl (nth_pointed ss)

-- the pointer of the statement that was found, if one was
pub pointer_found : (o : Option Statement) (p : Option Place) (ss : List Statement) (i : ℕ) → o ≡ slice_get (filter is_pointed ss) i → p ≡ first_of o → p ≡ slice_get (flat_map pointers_at ss) i
pointer_found o p ss i e f = f ∙ ap first_of e ∙ nth_pointed ss i

pub first_pointer : (o : Option Place) (ps : List Place) → as_list o ≡ ps → o ≡ slice_get ps 0
first_pointer None ps e = ap (λ (xs : List Place). slice_get xs 0) e
first_pointer (Some p) ps e = ap (λ (xs : List Place). slice_get xs 0) e

pub is_some_pointer : (o : Option Place) (ps : List Place) → as_list o ≡ ps → is_some o ≡ ltb 0 (length ps)
is_some_pointer None ps e = ap (λ (xs : List Place). ltb 0 (length xs)) e
is_some_pointer (Some p) ps e = ap (λ (xs : List Place). ltb 0 (length xs)) e

pub is_some_target : (text : List ℕ) (o : Option PlaceIn) → is_some o ≡ is_some (target_in text o)
is_some_target text None = refl
is_some_target text (Some p) = refl
