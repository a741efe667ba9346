-- A put of a new pair is a walk of one step.
use Rattle.std.proofs.Common.{◌≡◌, ℕ, ◌<◌, false, ◌&&◌, T, eqb, ◌⊎◌, Ok, inl, inr, ⊎_elim, arith, eqb→eq}
use lib.Dec.{eqb_refl}
use Rattle.constraints.specs.Rows.{Rows, ◌⊑◌, with_pair, total}
use Rattle.constraints.proofs.Finite.{or_cases, or_left, or_right, and_intro, and_left, and_right}
use Rattle.rows.proofs.Counts.{total_with}
use Rattle.walks.specs.Grown.{Grown}

module _ (P : Rows) (v o : ℕ) where
  pub new_grows : P ⊑ with_pair P v o
  new_grows x y t = or_left (P x y) (eqb x v && eqb y o) t

  pub new_held : T (with_pair P v o v o)
  new_held = or_right (P v o) (eqb v v && eqb o o) (and_intro (eqb v v) (eqb o o) (eqb_refl v) (eqb_refl o))

  pub new_only : (x y : ℕ) → T (with_pair P v o x y) → T (P x y) ⊎ ((x ≡ v) × (y ≡ o))
  new_only x y t =
      ⊎_elim inl (λ e. inr (eqb→eq x v (and_left (eqb x v) (eqb y o) e), eqb→eq y o (and_right (eqb x v) (eqb y o) e)))
      (or_cases (P x y) (eqb x v && eqb y o) t)

pub put_new : {G : Type 0} (rows : G → Rows) (limit : G → ℕ) (notes : G → G → Type 0) (s t : G) (v o : ℕ) → v < 256 → o < 256
    → rows s v o ≡ false → rows t ≡ with_pair (rows s) v o → total (rows s) < limit s → limit t ≡ limit s → notes s t
    → Grown {X = Unit {0}} rows limit notes (λ R. T (R v o)) s t (T (rows t v o)) (Ok tt)
put_new rows limit notes s t v o v_in o_in fresh after less same noted =
    record {
      grows = record {
        more = rw after (new_grows (rows s) v o);
        only = λ R m h. rw after (λ x y p. ⊎_elim (h x y) (λ e. rw (e.0, e.1) m) (new_only (rows s) v o x y p));
        noted = noted;
        same_limit = same;
        few = λ h. rw (after, same) (omega (arith, total_with (rows s) v o v_in o_in fresh));
      };
      ends = rw after (new_held (rows s) v o);
    }
