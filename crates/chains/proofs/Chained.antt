-- The answers of a sound store of chains, and an empty one.
use Rattle.std.proofs.Common.{◌≡◌, ℕ, ◌<◌, ◌≤◌, false, List, length, replicate, Some, None, Option, sym, ap, ◌∙◌, ⊎_elim, arith}
use mathlib.Core.Path.{fun_ext}
use mathlib.Core.Logic.{∥∥₁_elim}
use Rattle.std.proofs.lemmas.Bool.{cases_lt, lt-ltb, ne_eqb, and_parts}
use Rattle.std.proofs.lemmas.List.{get_or-replicate, length-replicate}
use Rattle.std.proofs.lemmas.Bool.Decides.{nat_tests}
use Rattle.chains.specs.declared.Cell.{Cell}
use Rattle.constraints.specs.Finite.{count}
use Rattle.constraints.specs.Rows.{empty, total}
use Rattle.rows.specs.Stores.{in_range, Within, Found}
use Rattle.chains.specs.Cells.{object_of, reach, above, head_of, in_row, chain_pairs, chain_room, Passed, RisingRows, Apart, Placed, Sound, Sound-prop}
use Rattle.rows.proofs.Counts.{count_same, total_empty, inside_parts}
use std.HLevel.{Π_prop}
use denote.Struct.Props.{props}
use Rattle.chains.proofs.Reach.{none_some, reach_zero, object_end, stays}
use Rattle.chains.proofs.Walks.{row_gap, row_here}

rising_prop : (cs : List Cell) (hs : List (Option ℕ)) (used : ℕ) → IsProp (RisingRows cs hs used)
rising_prop cs hs used = Π_prop (λ v. Π_prop (λ hv. Π_prop (λ o. Π_prop (λ ho. passed_prop (reach cs (head_of hs v) o) o))))
  where
    passed_prop : (i : Option ℕ) (o : ℕ) → IsProp (Passed cs used o i)
    passed_prop i o = hlevel props

apart_prop : (cs : List Cell) (hs : List (Option ℕ)) → IsProp (Apart cs hs)
apart_prop cs hs =
    Π_prop (λ v. Π_prop (λ w. Π_prop (λ a. Π_prop (λ b. Π_prop (λ hv. Π_prop (λ hw. Π_prop (λ ha. Π_prop (λ hb.
    Π_prop (λ e. Π_prop (λ ne. hlevel props))))))))))

pub is_sound : {cs : List Cell} {hs : List (Option ℕ)} {used : ℕ} → ∥ Sound cs hs used ∥₁ → Sound cs hs used
is_sound {cs} {hs} {used} s =
    ∥∥₁_elim s
    (Sound-prop (hlevel props) (hlevel props) (rising_prop cs hs used) (apart_prop cs hs) (hlevel props))
    (λ t. t)

pub chain_within : (cs : List Cell) (hs : List (Option ℕ)) (used : ℕ) → Sound cs hs used → Within (chain_room cs) (chain_pairs cs hs)
chain_within cs hs used sound = record {
  few = omega (arith, sound.counted, sound.few);
  inside = λ v o is. inside_parts v o (and_parts (in_range v o) (in_row cs (head_of hs v) o) is).0;
}

pub place_reach : (cs : List Cell) (h : Option ℕ) (o : ℕ) (before after : Option ℕ) → Placed cs h o before after → reach cs h o ≡ after
place_reach cs h o before after placed =
    let at = ap (object_of cs) placed.here in
    stays cs h (above cs before) o placed.low (omega (arith, placed.high)) ∙ placed.here

module _ (cs : List Cell) (hs : List (Option ℕ)) (v : ℕ) (hv : v < 256) where
  pub pair_in_row : (o : ℕ) → o < 256 → chain_pairs cs hs v o ≡ in_row cs (head_of hs v) o
  pair_in_row o ho = rw (lt-ltb v 256 hv, lt-ltb o 256 ho)

  pub count_row : count 256 (chain_pairs cs hs v) ≡ count 256 (in_row cs (head_of hs v))
  count_row = count_same (in_row cs (head_of hs v)) (chain_pairs cs hs v) 256 pair_in_row

  -- no object lies between a start and the cell that the walk reaches from there
  lacks : (a k : ℕ) → a ≤ k → k < object_of cs (reach cs (head_of hs v) a) → chain_pairs cs hs v k ≡ false
  lacks a k le less = ⊎_elim
      (λ hk. pair_in_row k hk ∙ row_gap cs (head_of hs v) a k le less)
      (λ past. grind (arith, nat_tests))
      (cases_lt k 256)

  pub next_none : (start : ℕ) → reach cs (head_of hs v) start ≡ None → Found (chain_pairs cs hs v) start None
  next_none start at k le = ⊎_elim
      (λ hk. lacks start k le (omega (arith, object_end cs (reach cs (head_of hs v) start) at)))
      (λ past. grind (arith, nat_tests))
      (cases_lt k 256)

  pub next_some : (start o : ℕ) → object_of cs (reach cs (head_of hs v) start) ≡ o → start ≤ o → o < 256
      → Found (chain_pairs cs hs v) start (Some o)
  next_some start o at le ho = record {
    from = le;
    object = ho;
    held = pair_in_row o ho ∙ rw at at (row_here cs (head_of hs v) start (omega arith));
    before = λ k l u. lacks start k l (omega arith);
  }

module _ (cs : List Cell) (hs : List (Option ℕ)) (no_rows : (v : ℕ) → v < 256 → head_of hs v ≡ None) where
  stuck : (v o : ℕ) → v < 256 → o ≤ 65536 → reach cs (head_of hs v) o ≡ None
  stuck v o hv ho =
      let at : reach cs (head_of hs v) 0 ≡ None = reach_zero cs (head_of hs v) ∙ no_rows v hv in
      let far = object_end cs (reach cs (head_of hs v) 0) at in
      stays cs (head_of hs v) 0 o (omega arith) (omega arith) ∙ at

  empty_pairs : chain_pairs cs hs ≡ empty
  empty_pairs = fun_ext (λ v. fun_ext (λ o. ⊎_elim
      (λ hv. ⊎_elim
      (λ ho.
      let far = object_end cs (reach cs (head_of hs v) o) (stuck v o hv (omega arith)) in
      rw (ne_eqb (object_of cs (reach cs (head_of hs v) o)) o (omega arith)) (grind (arith, nat_tests)))
      (λ ho. grind (arith, nat_tests))
      (cases_lt o 256))
      (λ hv. grind (arith, nat_tests))
      (cases_lt v 256)))

  empty_sound : length hs ≡ 256 → Sound cs hs 0
  empty_sound rows = record {
    rows = rows;
    few = omega arith;
    rising = λ v hv o ho. let at = stuck v o hv ho in let far = object_end cs (reach cs (head_of hs v) o) at in (omega arith, λ j e. absurd (none_some (sym at ∙ e)));
    apart = λ v w a b hv hw ha hb e ne. absurd (ne (stuck v a hv ha));
    counted = sym (ap total empty_pairs ∙ total_empty);
  }

no_head : (v : ℕ) → v < 256 → head_of (replicate 256 None) v ≡ None
no_head v hv = get_or-replicate 256 v None None hv

-- the heads of a store without pairs
pub wiped_pairs : (cs : List Cell) → chain_pairs cs (replicate 256 None) ≡ empty
wiped_pairs cs = empty_pairs cs (replicate 256 None) no_head

pub wiped_sound : (cs : List Cell) → Sound cs (replicate 256 None) 0
wiped_sound cs = empty_sound cs (replicate 256 None) no_head (length-replicate {A = Option ℕ} 256 None)
