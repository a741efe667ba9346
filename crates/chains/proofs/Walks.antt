-- What a walk along a row tells of its objects.
use Rattle.std.proofs.Common.{◌≡◌, ℕ, ◌+◌, ◌<◌, ◌≤◌, true, false, None, Option, List, ap, ◌∙◌, arith}
use Rattle.std.proofs.lemmas.Bool.{eq-eqb, ne_eqb}
use Rattle.chains.specs.declared.Cell.{Cell}
use Rattle.constraints.specs.Finite.{count}
use Rattle.chains.specs.Cells.{link_of, object_of, reach, above, in_row}
use Rattle.rows.proofs.Counts.{count_yes, count_skip}
use Rattle.chains.proofs.Reach.{object_end, above_cell, stays, goes_on}

module _ (cs : List Cell) (h : Option ℕ) where
  -- one cell on
  pub place_step : (o : ℕ) (before after : Option ℕ) → reach cs h (above cs before) ≡ after → (after ≡ None → ⊥)
      → above cs before ≤ object_of cs after → object_of cs after < o
      → (above cs after ≤ o) × (reach cs h (above cs after) ≡ link_of cs after) × ((after ≡ None → ⊥) → reach cs h (object_of cs after) ≡ after)
  place_step o before after at ne le less =
      let up = above_cell cs after ne in
      let same = ap (object_of cs) at in (
        omega arith,
        ap (reach cs h) up ∙ rw (← same) (goes_on cs h (above cs before) (omega arith) ∙ ap (link_of cs) at),
        λ _. stays cs h (above cs before) (object_of cs after) le (omega arith) ∙ at,
      )

  -- no object lies between those passed and the cell reached
  pub row_gap : (a k : ℕ) → a ≤ k → k < object_of cs (reach cs h a) → in_row cs h k ≡ false
  row_gap a k le less =
      let at = ap (object_of cs) (stays cs h a k le (omega arith)) in
      ne_eqb (object_of cs (reach cs h k)) k (omega arith)

  pub row_here : (a : ℕ) → a ≤ object_of cs (reach cs h a) → in_row cs h (object_of cs (reach cs h a)) ≡ true
  row_here a le =
      let k = object_of cs (reach cs h a) in
      eq-eqb (object_of cs (reach cs h k)) k (ap (object_of cs) (stays cs h a k le (omega arith)))

  pub count_past : (a : ℕ) → a ≤ object_of cs (reach cs h a)
      → count (object_of cs (reach cs h a) + 1) (in_row cs h) ≡ count a (in_row cs h) + 1
  count_past a le =
      let k = object_of cs (reach cs h a) in
      count_yes (in_row cs h) k (row_here a le) ∙ ap (λ n. n + 1) (count_skip (in_row cs h) a k le (row_gap a))

  pub count_end : (a : ℕ) → a ≤ 256 → reach cs h a ≡ None → count 256 (in_row cs h) ≡ count a (in_row cs h)
  count_end a le at =
      let far = object_end cs (reach cs h a) at in
      count_skip (in_row cs h) a 256 le (λ k l m. row_gap a k l (omega arith))
