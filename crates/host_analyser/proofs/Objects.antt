-- The next object of a row, and rows that share one.
use Rattle.std.proofs.Common.{◌≡◌, ℕ, ◌<◌, ◌≤◌, Bool, true, false, cond, ◌&&◌, ltb, T, leb, Some, None, Ok, Err, Option, IfSome, sym, refl, ap, ◌∙◌, subst, ⊎_elim, arith, le→leb, leb→le}
use Rattle.std.specs.Option.{option_flatten}
use Rattle.std.specs.Result.{result_ok}
use Rattle.std.proofs.lemmas.Bool.{cases_lt, lt-ltb}
use Rattle.constraints.specs.Finite.{any, lowest}
use Rattle.constraints.proofs.Finite.{and_intro, and_left, and_right, any_intro, any_elim, lowest_passes, lowest_first}
use Rattle.constraints.proofs.Rows.{same_test}
use Rattle.constraints.specs.Constraint.{var_count}
use Rattle.constraints.specs.Least.{least}
use Rattle.engine.specs.declared.fault.EngineFault.TheVariants.{Gathering, Outside}
use Rattle.engine.specs.Meanings.{Meaning, next_answer}
use Rattle.rows.specs.Stores.{next_of}
use Rattle.host_analyser.specs.Objects.{AnswersFor, NextObject, Unshared}

module _ (row : ℕ → Bool) (from : ℕ) where
  abbrev later : ℕ → Bool
  later o = leb from o && row o

  -- the engine's next is the smallest object at or above
  pub next_object : (r : Option ℕ) → r ≡ next_of row from → NextObject row from r
  next_object r e = subst (NextObject row from) (sym e) (go (any 256 later) refl)
    where
      go : (b : Bool) → any 256 later ≡ b → NextObject row from (cond b (Some (lowest 256 later)) None)
      go true some =
          let t : T (any 256 later) = subst T (sym some) tt in
          let (passes, lt) = lowest_passes 256 later t in
          let low = lowest 256 later in (
            lt,
            leb→le from low (and_left (leb from low) (row low) passes),
            and_right (leb from low) (row low) passes,
            λ k above below there. let le = lowest_first 256 later k (omega arith) (and_intro (leb from k) (row k) (le→leb from k above) there) in absurd (omega (arith, le)),
          )
      go false none = λ k in_range above there. subst T none (any_intro 256 later k in_range (and_intro (leb from k) (row k) (le→leb from k above) there))

module _ (r q : ℕ → Bool) where
  -- between two objects that follow each other in one row, the rows share nothing
  pub unshared_on : (from o p : ℕ) → Unshared r q from → NextObject r from (Some o) → NextObject q o (Some p) → Unshared r q p
  unshared_on from o p so_far next_r next_q k below in_r in_q =
      ⊎_elim (λ lt. so_far k lt in_r in_q)
      (λ le. ⊎_elim (λ lt. next_r.3 k le lt in_r) (λ up. next_q.3 k up below in_q) (cases_lt k o))
      (cases_lt k from)

  pub share_none_second : (from o : ℕ) → Unshared r q from → NextObject r from (Some o) → NextObject q o None → false ≡ any 256 (λ k. r k && q k)
  share_none_second from o so_far next_r next_q =
      same_test false (any 256 (λ k. r k && q k)) (λ t. absurd t)
      (λ t. let (k, lt, both) = any_elim 256 (λ j. r j && q j) t in
      let in_r = and_left (r k) (q k) both in
      let in_q = and_right (r k) (q k) both in
      ⊎_elim (λ before. so_far k before in_r in_q)
      (λ le. ⊎_elim (λ early. next_r.3 k le early in_r) (λ up. next_q k lt up in_q) (cases_lt k o))
      (cases_lt k from))

  pub share_none_first : (from : ℕ) → Unshared r q from → NextObject r from None → false ≡ any 256 (λ k. r k && q k)
  share_none_first from so_far next_r =
      same_test false (any 256 (λ k. r k && q k)) (λ t. absurd t)
      (λ t. let (k, lt, both) = any_elim 256 (λ j. r j && q j) t in
      let in_r = and_left (r k) (q k) both in
      ⊎_elim (λ before. so_far k before in_r (and_right (r k) (q k) both)) (λ le. next_r k lt le in_r) (cases_lt k from))

  pub share_some : (from o p : ℕ) → o ≡ p → NextObject r from (Some o) → NextObject q o (Some p) → true ≡ any 256 (λ k. r k && q k)
  share_some from o p same next_r next_q =
      same_test true (any 256 (λ k. r k && q k))
      (λ _. any_intro 256 (λ k. r k && q k) o next_r.0 (and_intro (r o) (q o) next_r.2 (subst (λ x. T (q x)) (sym same) next_q.2)))
      (λ _. tt)

bounded : (row : ℕ → Bool) (from : ℕ) (r : Option ℕ) → NextObject row from r → IfSome r (λ o. (from ≤ o) × (o < 256))
bounded row from None next = tt
bounded row from (Some o) next = (next.1, next.0)

-- what is made of an engine's answer, with none in place of a refusal
module _ (m : Meaning) (v from : ℕ) (r : Option ℕ) (is : r ≡ option_flatten (result_ok (next_answer m v from))) where
  pub next_bound : IfSome r (λ o. (from ≤ o) × (o < 256))
  next_bound = go m.settled (ltb v (var_count m.system)) is
    where
      go : (settled inside : Bool) → r ≡ option_flatten (result_ok (cond settled (cond inside (Ok (next_of (least m.system v) from)) (Err Outside)) (Err Gathering)))
          → IfSome r (λ o. (from ≤ o) × (o < 256))
      go true true e = bounded (least m.system v) from r (next_object (least m.system v) from r e)
      go true false e = rw e tt
      go false inside e = rw e tt

  pub next_answered : AnswersFor m v → NextObject (least m.system v) from r
  next_answered ready = next_object (least m.system v) from r (rw (ready.settled, lt-ltb v (var_count m.system) ready.row) at is)

-- what an engine answers whose meaning stayed
module _ (m : Meaning) (v from : ℕ) where
  pub still_next : (k : Meaning) (r : Option ℕ) → k ≡ m → AnswersFor m v
      → (AnswersFor k v → NextObject (least k.system v) from r) → NextObject (least m.system v) from r
  still_next k r same ready next =
      subst (λ x. NextObject (least x.system v) from r) same
      (next (record { settled = ap (λ x. x.settled) same ∙ ready.settled; row = subst (λ x. v < var_count x.system) (sym same) ready.row }))
