-- A table inside another has no more variables.
use Rattle.std.proofs.Common.{◌≡◌, ℕ, suc, ◌+◌, ◌<◌, ◌≤◌, Bool, true, false, cond, List, [], ◌∷◌, refl, ◌∙◌, arith}
use Rattle.std.specs.Str.{bytes_eq}
use Rattle.std.proofs.lemmas.Bool.{cond_both, cond-true, cond-false}
use Rattle.constraints.specs.Constraint.{variables}
use Rattle.declarations.specs.Declarations.{Entry, size_of}
use Rattle.books.specs.Tables.{without, distinct, Once, blocks}
use Rattle.books.proofs.Tables.{same_bytes, bytes_same, size_without}
use Rattle.books.proofs.Embedding.{Grows}

zero_step : (b : Bool) (x y z : ℕ) → cond b (suc x) y ≡ 0 → (y ≡ 0 → z ≡ 0) → cond b (suc x) z ≡ 0
zero_step true x y z e ih = absurd (omega arith)
zero_step false x y z e ih = ih e

zero_tail : (b : Bool) (x y : ℕ) → cond b (suc x) y ≡ 0 → y ≡ 0
zero_tail true x y e = absurd (omega arith)
zero_tail false x y e = e

still_none : (n m : List ℕ) (es : List Entry) → size_of es m ≡ 0 → size_of (without n es) m ≡ 0
still_none n m [] e = refl
still_none n m (f ∷ es) e =
    let rest : size_of es m ≡ 0 = zero_tail (bytes_eq f.name m) f.slots (size_of es m) e in
    cond_both (bytes_eq f.name n) (without n es) (f ∷ without n es) (λ fs. size_of fs m ≡ 0) (λ _. still_none n m es rest)
    (λ _. zero_step (bytes_eq f.name m) f.slots (size_of es m) (size_of (without n es) m) e (still_none n m es))

gone : (n : List ℕ) (es : List Entry) → size_of (without n es) n ≡ 0
gone n [] = refl
gone n (f ∷ es) =
    cond_both (bytes_eq f.name n) (without n es) (f ∷ without n es) (λ fs. size_of fs n ≡ 0) (λ _. gone n es)
    (λ other. cond-false (bytes_eq f.name n) (suc f.slots) (size_of (without n es) n) other ∙ gone n es)

once_without : (n : List ℕ) (es : List Entry) → Once es → Once (without n es)
once_without n [] once = tt
once_without n (f ∷ es) (new, once) =
    cond_both (bytes_eq f.name n) (without n es) (f ∷ without n es) Once (λ _. once_without n es once)
    (λ _. (still_none n f.name es new, once_without n es once))

pub once_distinct : (es : List Entry) → Once (distinct es)
once_distinct [] = tt
once_distinct (e ∷ es) = (gone e.name (distinct es), once_without e.name (distinct es) (once_distinct es))

cut : (n : List ℕ) (es : List Entry) → size_of es n + variables (blocks (without n es)) ≤ variables (blocks es)
cut n [] = omega arith
cut n (f ∷ es) = go (bytes_eq f.name n) (cut n es)
  where
    go : (b : Bool) → size_of es n + variables (blocks (without n es)) ≤ variables (blocks es)
        → cond b (suc f.slots) (size_of es n) + variables (blocks (cond b (without n es) (f ∷ without n es))) ≤ suc f.slots + variables (blocks es)
    go true ih = omega arith
    go false ih = omega arith

-- a name of the rest is not the first
pub other_name : (e : Entry) (es : List Entry) (n : List ℕ) → size_of es e.name ≡ 0 → 0 < size_of es n → bytes_eq e.name n ≡ false
other_name e es n new lt = go (bytes_eq e.name n) refl
  where
    go : (b : Bool) → bytes_eq e.name n ≡ b → b ≡ false
    go true same = let z : size_of es n ≡ 0 = rw (← same_bytes e.name n same) new in absurd (omega arith)
    go false other = refl

grows_rest : (e : Entry) (es fs : List Entry) → size_of es e.name ≡ 0 → Grows (e ∷ es) fs → Grows es (without e.name fs)
grows_rest e es fs new grows n lt =
    let other = other_name e es n new lt in
    let whole : size_of (e ∷ es) n ≡ size_of es n = cond-false (bytes_eq e.name n) (suc e.slots) (size_of es n) other in
    size_without e.name n fs other ∙ grows n (rw whole lt) ∙ whole

-- each name once, and all of them in the other table
pub fewer_variables : (es fs : List Entry) → Once es → Grows es fs → variables (blocks es) ≤ variables (blocks fs)
fewer_variables [] fs once grows = omega arith
fewer_variables (e ∷ es) fs (new, once) grows =
    let own : size_of (e ∷ es) e.name ≡ suc e.slots = cond-true (bytes_eq e.name e.name) (suc e.slots) (size_of es e.name) (bytes_same e.name) in
    let there : size_of fs e.name ≡ size_of (e ∷ es) e.name = grows e.name (omega (arith, own)) in
    omega (arith, own, there, cut e.name fs, fewer_variables es (without e.name fs) once (grows_rest e es fs new grows))
