-- How many objects a row has and how many pairs a set of them, step by step; what a store may hold.
use Rattle.std.proofs.Common.{◌≡◌, ℕ, zero, suc, ◌+◌, ◌<◌, ◌≤◌, Bool, true, false, cond, ◌&&◌, eqb, ltb, refl, ap, ◌∙◌, ⊎_elim, arith}
use Rattle.std.proofs.lemmas.Bool.{cases_eq, and_parts, ltb-true, eqb-true, or_cases}
use Rattle.constraints.specs.Finite.{sum, count}
use Rattle.constraints.specs.Rows.{Rows, empty, with_pair, pairs_below, total}
use Rattle.constraints.proofs.Finite.{sum_same}
use Rattle.constraints.proofs.Rows.{total_one_more, total_bound}
use Rattle.rows.specs.Stores.{Inside, in_range, Within}

pub count_none : (row : ℕ → Bool) → count 0 row ≡ 0
unfolding count sum
count_none row = refl

module _ (row : ℕ → Bool) (n : ℕ) where
  count_next : count (n + 1) row ≡ cond (row n) 1 0 + count n row
  unfolding count sum
  count_next = let e : n + 1 ≡ suc n = omega arith in rw e

  pub count_yes : row n ≡ true → count (n + 1) row ≡ count n row + 1
  count_yes is = count_next ∙ rw is (omega arith)

  pub count_no : row n ≡ false → count (n + 1) row ≡ count n row
  count_no is = count_next ∙ rw is (omega arith)

pub count_skip : (row : ℕ → Bool) (a b : ℕ) → a ≤ b → ((k : ℕ) → a ≤ k → k < b → row k ≡ false) → count b row ≡ count a row
count_skip row a zero le lack = let e : a ≡ 0 = omega arith in rw e
count_skip row a (suc b) le lack = ⊎_elim
    (λ e. rw e)
    (λ ne.
    let next : suc b ≡ b + 1 = omega arith in
    ap (λ n. count n row) next ∙ count_no row b (lack b (omega arith) (omega arith))
    ∙ count_skip row a b (omega arith) (λ k l m. lack k l (omega arith)))
    (cases_eq a (suc b))

pub count_same : (row other : ℕ → Bool) (n : ℕ) → ((k : ℕ) → k < n → other k ≡ row k) → count n other ≡ count n row
unfolding count
count_same row other n same = sum_same n _ _ (λ k h. ap (λ b. cond b 1 0) (same k h))

sum_zeros : (n : ℕ) (f : ℕ → ℕ) → ((k : ℕ) → f k ≡ 0) → sum n f ≡ 0
unfolding sum
sum_zeros zero f each = refl
sum_zeros (suc n) f each = omega (arith, each n, sum_zeros n f each)

pub total_empty : total empty ≡ 0
unfolding total pairs_below count
total_empty = sum_zeros 256 _ (λ v. sum_zeros 256 _ (λ o. refl))

module _ (P : Rows) (v o : ℕ) (in_v : v < 256) (in_o : o < 256) (new : P v o ≡ false) where
  pub total_with : total (with_pair P v o) ≡ total P + 1
  total_with = total_one_more P v o in_v in_o (rw new tt)

  -- a set that lacks a pair has room for it
  pub total_below : total P < 65536
  total_below = omega (arith, total_with, total_bound (with_pair P v o))

  -- one pair more
  pub within_with : (n : ℕ) → Within n P → total P < n → Within n (with_pair P v o)
  within_with n within free = record {
    few = omega (arith, total_with);
    inside = λ w x is. ⊎_elim
        (λ old. within.inside w x old)
        (λ this.
        let both = and_parts (eqb w v) (eqb x o) this in
        let same_v = eqb-true w v both.0 in
        let same_o = eqb-true x o both.1 in
        (omega arith, omega arith))
        (or_cases (P w x) (eqb w v && eqb x o) is);
  }

pub within_empty : (n : ℕ) → Within n empty
within_empty n = record { few = omega (arith, total_empty); inside = λ v o is. absurd (let z : ◌≡◌ {A = ℕ} 0 1 = cc in omega arith) }

pub inside_parts : (v o : ℕ) → in_range v o ≡ true → Inside v o
inside_parts v o is =
    let both = and_parts (ltb v 256) (ltb o 256) is in
    (ltb-true v 256 both.0, ltb-true o 256 both.1)
