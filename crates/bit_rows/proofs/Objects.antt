-- What a chain over the objects of a row answers.
use Rattle.std.proofs.Common.{◌≡◌, ℕ, zero, suc, ◌+◌, ◌-◌, ◌<◌, ◌≤◌, Bool, true, false, cond, filter, length, ◌∷◌, Some, None, Option, refl, ◌∙◌, ⊎_elim, arith}
use Rattle.std.specs.declared.ops.RangeInclusive.{RangeInclusive}
use Rattle.std.specs.Range.{range_inclusive_len, range_inclusive_start, range_inclusive_end, range_inclusive_exhausted}
use Rattle.std.specs.Iterator.{AlwaysYields}
use Rattle.std.specs.List.{range_with_len, find}
use Rattle.std.proofs.iter.runs.Sources.{nat_range_inclusive_steps}
use Rattle.std.proofs.lemmas.Bool.{cases_eq}
use Rattle.std.proofs.lemmas.Iterator.{YieldsList}
use Rattle.constraints.specs.Finite.{count}
use Rattle.rows.specs.Stores.{Found}
use Rattle.rows.proofs.Counts.{count_none, count_yes, count_no}

abbrev left : RangeInclusive ℕ → ℕ
left s = range_inclusive_len (λ x y. y - x) (range_inclusive_start s) (range_inclusive_end s) (range_inclusive_exhausted s)

begins : (s : RangeInclusive ℕ) (a : ℕ) → (range_inclusive_exhausted s ≡ false → range_inclusive_start s ≡ a) → 0 < left s → range_inclusive_start s ≡ a
begins s a at some = go (range_inclusive_exhausted s) refl
  where
    go : (b : Bool) → range_inclusive_exhausted s ≡ b → range_inclusive_start s ≡ a
    go false e = at e
    go true e = let none : left s ≡ 0 = rw e refl in absurd (omega (arith, none, some))

yields : (n a : ℕ) (s : RangeInclusive ℕ) → left s ≡ n → (range_inclusive_exhausted s ≡ false → range_inclusive_start s ≡ a)
    → AlwaysYields nat_range_inclusive_steps (λ x. x) s (range_with_len a n)
yields zero a s e at = λ x t step. omega (arith, step.1.1, e)
yields (suc n) a s e at =
    let is = begins s a at (omega arith) in (
      (λ t step. omega (arith, step.1.0, e)),
      λ x t step. (step.1.0 ∙ is, yields n (a + 1) t (omega (arith, step.1.1, e)) (λ z. omega (arith, step.1.2 z, is))),
    )

-- `a..=b` gives the numbers from a on
pub inclusive_yields : {s : RangeInclusive ℕ} (a b n : ℕ) → range_inclusive_start s ≡ a → range_inclusive_end s ≡ b → range_inclusive_exhausted s ≡ false
    → a + n ≡ b + 1 → YieldsList nat_range_inclusive_steps (λ x. x) s (range_with_len a n)
inclusive_yields {s} a b n first last fresh long =
    let all : left s ≡ n = rw fresh (omega arith) in record { runs = yields n a s all (λ z. first) }

module _ (row : ℕ → Bool) where
  later : (a : ℕ) (r : Option ℕ) → row a ≡ false → Found row (a + 1) r → Found row a r
  later a None lacks none = λ o from. ⊎_elim (λ e. rw e lacks) (λ ne. none o (omega arith)) (cases_eq o a)
  later a (Some x) lacks least = record {
    from = omega (arith, least.from);
    object = least.object;
    held = least.held;
    before = λ o from below. ⊎_elim (λ e. rw e lacks) (λ ne. least.before o (omega arith) below) (cases_eq o a);
  }

  pub find_first : (n a : ℕ) → a + n ≡ 256 → ((o : ℕ) → 256 ≤ o → row o ≡ false) → Found row a (find row (range_with_len a n))
  find_first zero a end outside = λ o from. outside o (omega arith)
  find_first (suc n) a end outside = by_test (row a) refl (find_first n (a + 1) (omega arith) outside)
    where
      by_test : (b : Bool) → row a ≡ b → Found row (a + 1) (find row (range_with_len (a + 1) n)) → Found row a (cond b (Some a) (find row (range_with_len (a + 1) n)))
      by_test true e rest = record { from = omega arith; object = omega arith; held = e; before = λ o from below. absurd (omega arith) }
      by_test false e rest = later a (find row (range_with_len (a + 1) n)) e rest

  pub count_range : (n a : ℕ) → count a row + length (filter row (range_with_len a n)) ≡ count (a + n) row
  count_range zero a = let e : a + 0 ≡ a = omega arith in rw e (omega arith)
  count_range (suc n) a = by_test (row a) refl (count_range n (a + 1))
    where
      by_test : (b : Bool) → row a ≡ b → count (a + 1) row + length (filter row (range_with_len (a + 1) n)) ≡ count (a + 1 + n) row
          → count a row + length (cond b (a ∷ filter row (range_with_len (a + 1) n)) (filter row (range_with_len (a + 1) n))) ≡ count (a + suc n) row
      by_test true e rest = let next : a + suc n ≡ a + 1 + n = omega arith in rw next (omega (arith, count_yes row a e, rest))
      by_test false e rest = let next : a + suc n ≡ a + 1 + n = omega arith in rw next (omega (arith, count_no row a e, rest))

  -- over all objects
  pub row_count : length (filter row (range_with_len 0 256)) ≡ count 256 row
  row_count = omega (arith, count_range 256 0, count_none row)
