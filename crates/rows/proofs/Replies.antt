-- A reply by cases is one value.
use Rattle.std.proofs.Common.{◌≡◌, ℕ, ◌≤◌, Bool, true, false, cond, ◌&&◌, T, leb, Some, None, Option, sym, refl, ap, ⊎_elim, arith}
use Rattle.std.proofs.lemmas.Bool.{cases_lt, le-leb, leb-true, and_from, and_parts}
use Rattle.constraints.specs.Finite.{any, lowest}
use Rattle.constraints.proofs.Finite.{T_true, any_intro, any_elim, lowest_passes, lowest_first}
use Rattle.rows.specs.Stores.{Smallest, Found, next_of}

module _ (row : ℕ → Bool) (i : ℕ) where
  -- an object of the row at or above i
  abbrev passes : ℕ → Bool
  passes o = leb i o && row o

  passed : (o : ℕ) → T (passes o) → (i ≤ o) × (row o ≡ true)
  passed o t = let both = and_parts (leb i o) (row o) (T_true t) in (leb-true i o both.0, both.1)

  pass : (o : ℕ) → i ≤ o → row o ≡ true → T (passes o)
  pass o le is = rw (and_from (leb i o) (row o) (le-leb i o le) is) tt

  -- the lowest that passes is the smallest object
  lowest_is : (o : ℕ) → Smallest row i o → (T (any 256 passes)) × (lowest 256 passes ≡ o)
  lowest_is o found =
      let t = pass o found.from found.held in
      let some = any_intro 256 passes o found.object t in
      let low = lowest_passes 256 passes some in
      let at = passed (lowest 256 passes) low.0 in (
        some,
        ⊎_elim
            (λ below. absurd (let z = found.before (lowest 256 passes) at.0 below in let no : ◌≡◌ {A = ℕ} 0 1 = cc in omega arith))
            (λ above. omega (arith, lowest_first 256 passes o found.object t))
            (cases_lt (lowest 256 passes) o),
      )

  by_test : (b : Bool) → any 256 passes ≡ b → (r : Option ℕ) → Found row i r → r ≡ cond b (Some (lowest 256 passes)) None
  by_test true is (Some o) found = ap Some (sym (lowest_is o found).1)
  by_test false is (Some o) found = absurd (rw is at (lowest_is o found).0)
  by_test true is None lack =
      let some = any_elim 256 passes (rw is tt) in
      let at = passed some.0 some.2 in
      absurd (let z = lack some.0 at.0 in let no : ◌≡◌ {A = ℕ} 0 1 = cc in omega arith)
  by_test false is None lack = refl

  pub found_is : (r : Option ℕ) → Found row i r → r ≡ next_of row i
  found_is r found = by_test (any 256 passes) refl r found
