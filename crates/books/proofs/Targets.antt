-- Which names are listed as targets.
use Rattle.std.proofs.Common.{◌≡◌, ℕ, suc, ◌+◌, ◌<◌, Bool, true, false, cond, ◌&&◌, T, ltb, List, [], ◌∷◌, ◌++◌, map, sym, refl, subst, inl, inr, not-suc-le-zero, arith}
use Rattle.std.specs.List.{AllByRecursion}
use Rattle.std.specs.Str.{bytes_eq}
use Rattle.std.proofs.lemmas.Bool.{ltb-true, lt-ltb, cond-true, cond-false}
use Rattle.constraints.proofs.Finite.{T_true, and_left, and_right, and_intro}
use Rattle.declarations.specs.Declarations.{Entry, size_of}
use Rattle.books.specs.Members.{◌∈◌}
use Rattle.books.specs.Tables.{first_of, Once, number, slot}
use Rattle.books.specs.Targets.{functions_from, functions, Rising, TargetsRise}
use Rattle.books.proofs.Members.{in_either, in_left, in_right}
use Rattle.books.proofs.Tables.{same_bytes, bytes_same}
use Rattle.books.proofs.Sizes.{other_name}

module _ (row : ℕ → Bool) (n : List ℕ) where
  -- a function whose object the row has
  abbrev Target : ℕ → List Entry → Type 0
  Target v es = (1 < size_of es n) × T (row (v + first_of es n))

  own : (v : ℕ) (e : Entry) (es : List Entry) (b : Bool) → (ltb 0 e.slots && row v) ≡ b → n ∈ cond b (e.name ∷ []) [] → Target v (e ∷ es)
  own v e es false is h = absurd h
  own v e es true is (inr h) = absurd h
  own v e es true is (inl same) =
      let both : T (ltb 0 e.slots && row v) = rw is tt in
      let here : bytes_eq e.name n ≡ true = rw same (bytes_same e.name) in
      let size : size_of (e ∷ es) n ≡ suc e.slots = cond-true (bytes_eq e.name n) (suc e.slots) (size_of es n) here in
      let at : first_of (e ∷ es) n ≡ 0 = cond-true (bytes_eq e.name n) 0 (suc e.slots + first_of es n) here in
      let var : v + first_of (e ∷ es) n ≡ v = omega arith in (
        omega (arith, size, ltb-true 0 e.slots (T_true (and_left (ltb 0 e.slots) (row v) both))),
        rw var (and_right (ltb 0 e.slots) (row v) both),
      )

  later : (v : ℕ) (e : Entry) (es : List Entry) → size_of es e.name ≡ 0 → Target (v + suc e.slots) es → Target v (e ∷ es)
  later v e es new (size, t) =
      let other = other_name e es n new (omega arith) in
      let same : size_of (e ∷ es) n ≡ size_of es n = cond-false (bytes_eq e.name n) (suc e.slots) (size_of es n) other in
      let at : first_of (e ∷ es) n ≡ suc e.slots + first_of es n = cond-false (bytes_eq e.name n) 0 (suc e.slots + first_of es n) other in
      let var : v + first_of (e ∷ es) n ≡ v + suc e.slots + first_of es n = omega arith in
      (rw same size, rw var t)

  listed_from : (v : ℕ) (es : List Entry) → Once es → n ∈ functions_from v es row → Target v es
  listed_from v [] once h = absurd h
  listed_from v (e ∷ es) (new, once) h =
      elim (in_either n (cond (ltb 0 e.slots && row v) (e.name ∷ []) []) (functions_from (v + suc e.slots) es row) h) [
        | inl l ↦ own v e es (ltb 0 e.slots && row v) refl l
        | inr r ↦ later v e es new (listed_from (v + suc e.slots) es once r)
      ]

  from_listed : (v : ℕ) (es : List Entry) → 1 < size_of es n → T (row (v + first_of es n)) → n ∈ functions_from v es row
  from_listed v [] size t = absurd (not-suc-le-zero size)
  from_listed v (e ∷ es) size t = go (bytes_eq e.name n) refl size t (from_listed (v + suc e.slots) es)
    where
      go : (b : Bool) → bytes_eq e.name n ≡ b → 1 < cond b (suc e.slots) (size_of es n) → T (row (v + cond b 0 (suc e.slots + first_of es n)))
          → (1 < size_of es n → T (row (v + suc e.slots + first_of es n)) → n ∈ functions_from (v + suc e.slots) es row)
          → n ∈ functions_from v (e ∷ es) row
      go true same big here ih =
          let var : v + 0 ≡ v = omega arith in
          let some : ltb 0 e.slots ≡ true = lt-ltb 0 e.slots (omega arith) in
          let both : (ltb 0 e.slots && row v) ≡ true = T_true (and_intro (ltb 0 e.slots) (row v) (rw some tt) (rw var at here)) in
          in_left n (cond (ltb 0 e.slots && row v) (e.name ∷ []) []) (functions_from (v + suc e.slots) es row)
          (subst (λ xs. n ∈ xs) (sym (cond-true (ltb 0 e.slots && row v) (e.name ∷ []) [] both)) (inl (sym (same_bytes e.name n same))))
      go false other big there ih =
          let var : v + (suc e.slots + first_of es n) ≡ v + suc e.slots + first_of es n = omega arith in
          in_right n (cond (ltb 0 e.slots && row v) (e.name ∷ []) []) (functions_from (v + suc e.slots) es row) (ih big (rw var at there))

pub listed_is : (es : List Entry) (row : ℕ → Bool) (n : List ℕ) → Once es → n ∈ functions es row → (1 < size_of es n) × T (row (number es (slot n 0)))
listed_is es row n once h =
    let (size, t) = listed_from row n 0 es once h in
    let var : 0 + first_of es n ≡ number es (slot n 0) = omega arith in
    (size, rw var at t)

pub is_listed : (es : List Entry) (row : ℕ → Bool) (n : List ℕ) → 1 < size_of es n → T (row (number es (slot n 0))) → n ∈ functions es row
is_listed es row n size t = let var : 0 + first_of es n ≡ number es (slot n 0) = omega arith in from_listed row n 0 es size (rw var t)

-- numbers that rise still rise when each is moved by k
rising_moved : (f g : List ℕ → ℕ) (k : ℕ) (ns : List (List ℕ)) → ((n : List ℕ) → n ∈ ns → g n ≡ k + f n) → Rising (map f ns) → Rising (map g ns)
rising_moved f g k [] moved rising = tt
rising_moved f g k (m ∷ ns) moved (below, rising) = (
  all_moved ns (λ n n_in. moved n (inr n_in)) below,
  rising_moved f g k ns (λ n n_in. moved n (inr n_in)) rising,
)
  where
    all_moved : (ls : List (List ℕ)) → ((n : List ℕ) → n ∈ ls → g n ≡ k + f n) → AllByRecursion (λ y. f m < y) (map f ls) → AllByRecursion (λ y. g m < y) (map g ls)
    all_moved [] at all = tt
    all_moved (l ∷ ls) at (lt, all) = (omega (arith, moved m (inl refl), at l (inl refl), lt), all_moved ls (λ n n_in. at n (inr n_in)) all)

all_above : (g : List ℕ → ℕ) (b : ℕ) (ns : List (List ℕ)) → ((n : List ℕ) → n ∈ ns → b < g n) → AllByRecursion (λ y. b < y) (map g ns)
all_above g b [] above = tt
all_above g b (n ∷ ns) above = (above n (inl refl), all_above g b ns (λ m m_in. above m (inr m_in)))

rise_from : (v : ℕ) (es : List Entry) → Once es → (row : ℕ → Bool) → Rising (map (first_of es) (functions_from v es row))
rise_from v [] once row = tt
rise_from v (e ∷ es) (new, once) row = go (ltb 0 e.slots && row v) (rise_from (v + suc e.slots) es once row)
  where
    later_at : (n : List ℕ) → n ∈ functions_from (v + suc e.slots) es row → first_of (e ∷ es) n ≡ suc e.slots + first_of es n
    later_at n n_in =
        let (size, _) = listed_from row n (v + suc e.slots) es once n_in in
        cond-false (bytes_eq e.name n) 0 (suc e.slots + first_of es n) (other_name e es n new (omega arith))

    own_at : first_of (e ∷ es) e.name ≡ 0
    own_at = cond-true (bytes_eq e.name e.name) 0 (suc e.slots + first_of es e.name) (bytes_same e.name)

    rest : Rising (map (first_of es) (functions_from (v + suc e.slots) es row))
        → Rising (map (first_of (e ∷ es)) (functions_from (v + suc e.slots) es row))
    rest ih = rising_moved (first_of es) (first_of (e ∷ es)) (suc e.slots) (functions_from (v + suc e.slots) es row) later_at ih

    go : (b : Bool) → Rising (map (first_of es) (functions_from (v + suc e.slots) es row))
        → Rising (map (first_of (e ∷ es)) (cond b (e.name ∷ []) [] ++ functions_from (v + suc e.slots) es row))
    go false ih = rest ih
    go true ih = (
      all_above (first_of (e ∷ es)) (first_of (e ∷ es) e.name) (functions_from (v + suc e.slots) es row) (λ n n_in. omega (arith, own_at, later_at n n_in)),
      rest ih,
    )

pub targets_rise : TargetsRise
targets_rise es once row = rise_from 0 es once row
