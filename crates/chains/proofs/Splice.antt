-- A fresh cell spliced into a row: the row has one object more, and the others stay.
use Rattle.std.proofs.Common.{◌≡◌, ℕ, ◌+◌, ◌<◌, ◌≤◌, false, ◌&&◌, ◌||◌, eqb, ◌⊎◌, List, Some, None, Option, length, sym, ap, ◌∙◌, inl, inr, ⊎_elim, arith}
use mathlib.Core.Path.{fun_ext}
use Rattle.std.proofs.lemmas.Bool.{cases_eq, cases_lt, ne_eqb}
use Rattle.std.proofs.lemmas.Bool.Decides.{nat_tests}
use Rattle.chains.specs.declared.Cell.{Cell}
use Rattle.constraints.specs.Rows.{with_pair, total}
use Rattle.chains.specs.Cells.{object_of, step, reach, above, head_of, in_row, chain_pairs, chain_room, Passed, Placed, Sound, Spliced}
use Rattle.rows.proofs.Counts.{total_with}
use Rattle.chains.proofs.Reach.{cases_place, some_same, step_on, step_stay, object_end, above_cell, above_end, reach_zero, reach_next, stays, agree}

kept_test : (w v p o x y : ℕ) → x ≡ y → (w ≡ v → p ≡ o → ⊥) → eqb x p ≡ (eqb y p || (eqb w v && eqb p o))
kept_test w v p o x y same other = grind (arith, nat_tests)

fresh_test : (w v p o x y : ℕ) → w ≡ v → x ≡ o → p ≤ o → o < y → eqb x p ≡ (eqb y p || (eqb w v && eqb p o))
fresh_test w v p o x y row fresh up past = grind (arith, nat_tests)

module _ (cs ds : List Cell) (hs gs : List (Option ℕ)) (used v o : ℕ) (before after : Option ℕ)
    (sound : Sound cs hs used) (hv : v < 256) (ho : o < 256)
    (placed : Placed cs (head_of hs v) o before after) (new : object_of cs after ≡ o → ⊥)
    (few : used < chain_room cs) (spliced : Spliced cs ds hs gs used v o before after) where
  not_fresh : (w k : ℕ) → w < 256 → k ≤ 65536 → reach cs (head_of hs w) k ≡ Some used → ⊥
  not_fresh w k hw hk e =
      let inside = (sound.rising w hw k hk).1 used e in omega arith

  -- a cell before which nothing is linked in steps as it did
  same_step : (i : Option ℕ) (k : ℕ) → (i ≡ Some used → ⊥) → (i ≡ before → object_of cs i ≡ k → ⊥) → step ds i k ≡ step cs i k
  same_step i k nu nb = ⊎_elim
      (λ e. step_stay ds i k (rw (spliced.objects i nu) (nb e)) ∙ sym (step_stay cs i k (nb e)))
      (λ ne. rw (spliced.objects i nu, spliced.links i nu ne))
      (cases_place i before)

  before_low : (before ≡ None → ⊥) → object_of cs before < o
  before_low ne = omega (arith, placed.low, above_cell cs before ne)

  other_row : (w b : ℕ) → w < 256 → b ≤ 65536 → (w ≡ v → ⊥) → reach ds (head_of gs w) b ≡ reach cs (head_of hs w) b
  other_row w b hw hb ne =
      agree cs ds (head_of hs w) (head_of gs w) 0 b (omega arith)
      (reach_zero ds (head_of gs w) ∙ spliced.heads w ne ∙ sym (reach_zero cs (head_of hs w)))
      (λ k _ l. same_step (reach cs (head_of hs w) k) k (not_fresh w k hw (omega arith)) (λ eb eo.
      let neb : before ≡ None → ⊥ = λ e. omega (arith, object_end cs (reach cs (head_of hs w) k) (eb ∙ e)) in
      let low = before_low neb in
      ne (sound.apart w v k (object_of cs before) hw hv (omega arith) (omega arith) (eb ∙ sym (placed.prior neb)) (λ e. neb (sym eb ∙ e)))))

  row_low : (b : ℕ) → b < above cs before → reach ds (head_of gs v) b ≡ reach cs (head_of hs v) b
  row_low b l =
      let ne : before ≡ None → ⊥ = λ e. omega (arith, above_end cs before e) in
      let low = before_low ne in
      let up = above_cell cs before ne in
      agree cs ds (head_of hs v) (head_of gs v) 0 b (omega arith)
      (reach_zero ds (head_of gs v) ∙ (spliced.later ne).1 ∙ sym (reach_zero cs (head_of hs v)))
      (λ k _ m. same_step (reach cs (head_of hs v) k) k (not_fresh v k hv (omega arith)) (λ eb eo. omega (arith, ap (object_of cs) eb)))

  row_at : reach ds (head_of gs v) (above cs before) ≡ Some used
  row_at = ⊎_elim
      (λ e. rw (above_end cs before e) (reach_zero ds (head_of gs v) ∙ spliced.first e))
      (λ ne.
      let k = object_of cs before in
      let low = before_low ne in
      let up = above_cell cs before ne in
      let nu : before ≡ Some used → ⊥ = λ e. not_fresh v k hv (omega arith) (placed.prior ne ∙ e) in
      ap (reach ds (head_of gs v)) up ∙ reach_next ds (head_of gs v) k
      ∙ ap (λ i. step ds i k) (row_low k (omega arith) ∙ placed.prior ne)
      ∙ step_on ds before k (spliced.objects before nu) ∙ (spliced.later ne).0)
      (cases_place before None)

  row_mid : (b : ℕ) → above cs before ≤ b → b ≤ o → reach ds (head_of gs v) b ≡ Some used
  row_mid b l u =
      let at = ap (object_of ds) row_at ∙ spliced.object in
      stays ds (head_of gs v) (above cs before) b l (omega arith) ∙ row_at

  old_at : (b : ℕ) → above cs before ≤ b → b ≤ o → reach cs (head_of hs v) b ≡ after
  old_at b l u =
      let at = ap (object_of cs) placed.here in
      stays cs (head_of hs v) (above cs before) b l (omega (arith, placed.high)) ∙ placed.here

  row_high : (b : ℕ) → o < b → b ≤ 65536 → reach ds (head_of gs v) b ≡ reach cs (head_of hs v) b
  row_high b l u =
      agree cs ds (head_of hs v) (head_of gs v) (o + 1) b (omega arith)
      (reach_next ds (head_of gs v) o ∙ ap (λ i. step ds i o) (row_mid o placed.low (omega arith))
      ∙ step_on ds (Some used) o spliced.object ∙ spliced.link
      ∙ sym (reach_next cs (head_of hs v) o ∙ ap (λ i. step cs i o) (old_at o placed.low (omega arith)) ∙ step_stay cs after o new))
      (λ k m n. same_step (reach cs (head_of hs v) k) k (not_fresh v k hv (omega arith)) (λ eb eo.
      let neb : before ≡ None → ⊥ = λ e. omega (arith, object_end cs (reach cs (head_of hs v) k) (eb ∙ e)) in
      omega (arith, ap (object_of cs) eb, before_low neb)))

  -- each cell that a walk reaches is the one it reached before, or the fresh one
  where_is : (w b : ℕ) → w < 256 → b ≤ 65536
      → (reach ds (head_of gs w) b ≡ reach cs (head_of hs w) b)
      ⊎ ((w ≡ v) × (above cs before ≤ b) × (b ≤ o) × (reach ds (head_of gs w) b ≡ Some used))
  where_is w b hw hb = ⊎_elim
      (λ e. ⊎_elim
      (λ l. inl (rw e (row_low b l)))
      (λ l. ⊎_elim
      (λ u. inl (rw e (row_high b u hb)))
      (λ u. inr (e, l, u, rw e (row_mid b l u)))
      (cases_lt o b))
      (cases_lt b (above cs before)))
      (λ ne. inl (other_row w b hw hb ne))
      (cases_eq w v)

  old_object : (w b : ℕ) → w < 256 → b ≤ 65536 → reach ds (head_of gs w) b ≡ reach cs (head_of hs w) b
      → object_of ds (reach ds (head_of gs w) b) ≡ object_of cs (reach cs (head_of hs w) b)
  old_object w b hw hb e = ap (object_of ds) e ∙ spliced.objects (reach cs (head_of hs w) b) (not_fresh w b hw hb)

  passed : (w b : ℕ) → w < 256 → b ≤ 65536 → Passed ds (used + 1) b (reach ds (head_of gs w) b)
  passed w b hw hb = ⊎_elim
      (λ e.
      let same = old_object w b hw hb e in
      let p = sound.rising w hw b hb in
      (omega arith, λ j is. let q = p.1 j (sym e ∙ is) in omega arith))
      (λ f. let same = ap (object_of ds) f.3 ∙ spliced.object in (omega arith, λ j is. let fresh : used ≡ j = some_same (sym f.3 ∙ is) in omega arith))
      (where_is w b hw hb)

  one_cell : (w x a b : ℕ) → w < 256 → x < 256 → a ≤ 65536 → b ≤ 65536
      → reach ds (head_of gs w) a ≡ reach ds (head_of gs x) b → (reach ds (head_of gs w) a ≡ None → ⊥) → w ≡ x
  one_cell w x a b hw hx ha hb e ne = ⊎_elim
      (λ p. ⊎_elim
      (λ q. sound.apart w x a b hw hx ha hb (sym p ∙ e ∙ q) (λ z. ne (p ∙ z)))
      (λ q. absurd (not_fresh w a hw ha (sym p ∙ e ∙ q.3)))
      (where_is x b hx hb))
      (λ p. ⊎_elim
      (λ q. absurd (not_fresh x b hx hb (sym q ∙ sym e ∙ p.3)))
      (λ q. p.0 ∙ sym q.0)
      (where_is x b hx hb))
      (where_is w a hw ha)

  row_pair : (w p : ℕ) → w < 256 → p < 256
      → in_row ds (head_of gs w) p ≡ (in_row cs (head_of hs w) p || (eqb w v && eqb p o))
  row_pair w p hw hp = ⊎_elim
      (λ e.
      let same = old_object w p hw (omega arith) e in
      let other : w ≡ v → p ≡ o → ⊥ = λ ew ep. not_fresh w p hw (omega arith) (sym e ∙ rw (ew, ep) (row_mid o placed.low (omega arith))) in
      kept_test w v p o _ _ same other)
      (λ f.
      let fresh = ap (object_of ds) f.3 ∙ spliced.object in
      let old : object_of cs (reach cs (head_of hs w) p) ≡ object_of cs after = rw f.0 (ap (object_of cs) (old_at p f.1 f.2)) in
      fresh_test w v p o _ _ f.0 fresh f.2 (omega (arith, placed.high)))
      (where_is w p hw (omega arith))

  pub spliced_pairs : chain_pairs ds gs ≡ with_pair (chain_pairs cs hs) v o
  spliced_pairs = fun_ext (λ w. fun_ext (λ p. ⊎_elim
      (λ hw. ⊎_elim
      (λ hp. rw (row_pair w p hw hp) (grind (arith, nat_tests)))
      (λ hp. grind (arith, nat_tests))
      (cases_lt p 256))
      (λ hw. grind (arith, nat_tests))
      (cases_lt w 256)))

  is_new : chain_pairs cs hs v o ≡ false
  is_new =
      let at = ap (object_of cs) (old_at o placed.low (omega arith)) in
      rw (ne_eqb (object_of cs (reach cs (head_of hs v) o)) o (λ e. new (sym at ∙ e))) (grind (arith, nat_tests))

  pub spliced_sound : length ds ≡ length cs → length gs ≡ 256 → Sound ds gs (used + 1)
  spliced_sound same rows = record {
    rows = rows;
    few = rw same (omega arith);
    rising = λ w hw b hb. passed w b hw hb;
    apart = one_cell;
    counted = omega (arith, sound.counted, total_with (chain_pairs cs hs) v o hv ho is_new, ap total spliced_pairs);
  }
