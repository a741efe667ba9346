-- The walk along a row.
use Rattle.std.proofs.Common.{◌≡◌, ℕ, zero, suc, ◌+◌, ◌<◌, ◌≤◌, List, Some, None, Option, ◌⊎◌, is_some, inl, inr, sym, refl, ap, ◌∙◌, ⊎_elim, arith}
use Rattle.std.proofs.lemmas.Bool.{cases_eq, eq-eqb, ne_eqb, false≢true}
use Rattle.chains.specs.declared.Cell.{Cell}
use Rattle.chains.specs.Cells.{link_of, object_of, step, reach, above}

pub none_some : {j : ℕ} → ◌≡◌ {A = Option ℕ} None (Some j) → ⊥
none_some e = false≢true (ap is_some e)

pub some_same : {x y : ℕ} → Some x ≡ Some y → x ≡ y
some_same e = cc

pub cases_place : (a b : Option ℕ) → (a ≡ b) ⊎ (a ≡ b → ⊥)
cases_place None None = inl refl
cases_place None (Some y) = inr none_some
cases_place (Some x) None = inr (λ e. none_some (sym e))
cases_place (Some x) (Some y) = ⊎_elim (λ e. inl (ap Some e)) (λ ne. inr (λ e. ne (some_same e))) (cases_eq x y)

pub step_on : (cs : List Cell) (i : Option ℕ) (o : ℕ) → object_of cs i ≡ o → step cs i o ≡ link_of cs i
step_on cs i o e = rw (eq-eqb (object_of cs i) o e)

pub step_stay : (cs : List Cell) (i : Option ℕ) (o : ℕ) → (object_of cs i ≡ o → ⊥) → step cs i o ≡ i
step_stay cs i o ne = rw (ne_eqb (object_of cs i) o ne)

pub object_end : (cs : List Cell) (i : Option ℕ) → i ≡ None → object_of cs i ≡ 65536
object_end cs i e = ap (object_of cs) e

pub above_cell : (cs : List Cell) (i : Option ℕ) → (i ≡ None → ⊥) → above cs i ≡ object_of cs i + 1
above_cell cs None ne = absurd (ne refl)
above_cell cs (Some j) ne = refl

pub above_end : (cs : List Cell) (i : Option ℕ) → i ≡ None → above cs i ≡ 0
above_end cs i e = ap (above cs) e

module _ (cs : List Cell) (h : Option ℕ) where
  pub reach_zero : reach cs h 0 ≡ h
  unfolding reach
  reach_zero = refl

  pub reach_next : (o : ℕ) → reach cs h (o + 1) ≡ step cs (reach cs h o) o
  unfolding reach
  reach_next o = let e : o + 1 ≡ suc o = omega arith in rw e

  -- the walk stays where it is up to the object found there
  pub stays : (a b : ℕ) → a ≤ b → b ≤ object_of cs (reach cs h a) → reach cs h b ≡ reach cs h a
  unfolding reach
  stays a zero le up = let e : a ≡ 0 = omega arith in rw e
  stays a (suc b) le up = ⊎_elim
      (λ e. ap (reach cs h) (sym e))
      (λ (ne : a ≡ suc b → ⊥).
      let at = stays a b (omega arith) (omega arith) in
      let far : object_of cs (reach cs h b) ≡ b → ⊥ = rw at (omega arith) in
      step_stay cs (reach cs h b) b far ∙ at)
      (cases_eq a (suc b))

  -- and then goes on to the next cell
  pub goes_on : (a : ℕ) → a ≤ object_of cs (reach cs h a) → reach cs h (object_of cs (reach cs h a) + 1) ≡ link_of cs (reach cs h a)
  goes_on a le =
      let k = object_of cs (reach cs h a) in
      let at = stays a k le (omega arith) in
      reach_next k ∙ ap (λ i. step cs i k) at ∙ step_on cs (reach cs h a) k refl

-- two walks agree from a on, where their steps do
pub agree : (cs ds : List Cell) (h g : Option ℕ) (a b : ℕ) → a ≤ b → reach ds g a ≡ reach cs h a
    → ((k : ℕ) → a ≤ k → k < b → step ds (reach cs h k) k ≡ step cs (reach cs h k) k)
    → reach ds g b ≡ reach cs h b
unfolding reach
agree cs ds h g a zero le start same = let e : a ≡ 0 = omega arith in rw e at start
agree cs ds h g a (suc b) le start same = ⊎_elim
    (λ e. rw e at start)
    (λ ne.
    let at = agree cs ds h g a b (omega arith) start (λ k l u. same k l (omega arith)) in
    ap (λ i. step ds i b) at ∙ same b (omega arith) (omega arith))
    (cases_eq a (suc b))
