-- Notes of rows that stay, notes that follow one another, and a put with its marks.
use Rattle.std.specs.Prelude.{◌≡◌, ℕ, ◌<◌, Bool, false, refl}
use Rattle.std.proofs.Common.{◌∙◌, inl, inr, ⊎_elim, arith}
use Rattle.std.proofs.lemmas.Bool.{cases_Bool, both_ways}
use Rattle.constraints.specs.Rows.{Rows, with_pair}
use Rattle.constraints.specs.Constraint.{System, constraint}
use Rattle.constraints.proofs.Rows.{total_mono}
use Rattle.rows.proofs.Counts.{total_with}
use Rattle.walks.proofs.Puts.{new_grows, new_only}
use Rattle.worklist.specs.Waits.{reads, Marks, Noted}

pub noted_still : (sys : System) (n : ℕ) (P : Rows) (W : ℕ → Bool) → Noted sys n n P P W W
noted_still sys n P W =
    record { same = refl; grows = λ v o h. h; waits = λ j h. h; inside = λ j h. inl h; kept = λ j h j_in. inr (λ v o r p. p); moves = inr (λ j. refl) }

pub noted_then : (sys : System) (n m l : ℕ) (P P' P'' : Rows) (W W' W'' : ℕ → Bool)
    → Noted sys n m P P' W W' → Noted sys m l P' P'' W' W'' → Noted sys n l P P'' W W''
noted_then sys n m l P P' P'' W W' W'' a b =
    record {
      same = b.same ∙ a.same;
      grows = λ v o h. b.grows v o (a.grows v o h);
      waits = λ j h. b.waits j (a.waits j h);
      inside = λ j h. ⊎_elim (a.inside j) (λ lt. inr (omega (arith, a.same))) (b.inside j h);
      kept = λ j h j_in. ⊎_elim inl (λ second. ⊎_elim (λ w. inl (b.waits j w)) (λ first. inr (λ v o r p. first v o r (second v o r p))) (a.kept j h j_in))
          (b.kept j (omega (arith, a.same)) j_in);
      moves = ⊎_elim (λ more. inl (omega (arith, total_mono P' P'' b.grows)))
          (λ still. ⊎_elim (λ more. inl (omega (arith, total_mono P P' a.grows))) (λ later. inr (λ j. later j ∙ still j)) b.moves) a.moves;
    }

pub noted_new : (sys : System) (n v o : ℕ) (P P' : Rows) (W W' : ℕ → Bool) → v < 256 → o < 256 → P v o ≡ false → P' ≡ with_pair P v o
    → Marks sys n v W W' → Noted sys n n P P' W W'
noted_new sys n v o P P' W W' v_in o_in fresh after m =
    record {
      same = refl;
      grows = rw after (new_grows P v o);
      waits = m.waits;
      inside = m.inside;
      kept = λ j h j_in. ⊎_elim (λ r. inl (m.readers j h j_in r))
          (λ r. inr (λ x y rx p. ⊎_elim (λ q. q) (λ q. absurd (both_ways _ r (rw (← q.0) rx))) (new_only P v o x y (rw after at p))))
          (cases_Bool (reads sys.blocks (constraint sys j) v));
      moves = inl (rw after (omega (arith, total_with P v o v_in o_in fresh)));
    }
