-- Notes of rows that stay, notes that follow one another, and a put with its pair pending.
use Rattle.std.specs.Prelude.{◌≡◌, ℕ, ◌<◌, false, refl}
use Rattle.std.proofs.Common.{◌∙◌, inl, inr, ⊎_elim, arith}
use Rattle.constraints.specs.Rows.{Rows, with_pair}
use Rattle.rows.proofs.Counts.{total_with}
use Rattle.walks.proofs.Puts.{new_grows, new_held, new_only}
use Rattle.difference.specs.declared.pending.Pending.{Pending}
use Rattle.difference.specs.Queue.{Pushed, Noted, Counted}

pub counted_then : (n m : ℕ) (P P' : Rows) (q q' : Pending) → Counted P q → Noted n m P P' q q' → Counted P' q'
counted_then n m P P' q q' counted a = omega (arith, counted, a.counts)

pub noted_still : (n : ℕ) (P : Rows) (q : Pending) → Noted n n P P q q
noted_still n P q = record { same = refl; grows = λ v o h. h; held = λ h. h; new = λ v o t. inl t; stays = λ v o h. h; head = refl; counts = refl }

pub noted_then : (n m l : ℕ) (P P' P'' : Rows) (q q' q'' : Pending) → Noted n m P P' q q' → Noted m l P' P'' q' q'' → Noted n l P P'' q q''
noted_then n m l P P' P'' q q' q'' a b =
    record {
      same = b.same ∙ a.same;
      grows = λ v o h. b.grows v o (a.grows v o h);
      held = λ h. b.held (a.held h);
      new = λ v o t. ⊎_elim (λ old. ⊎_elim inl (λ p. inr (b.stays v o p)) (a.new v o old)) inr (b.new v o t);
      stays = λ v o h. b.stays v o (a.stays v o h);
      head = b.head ∙ a.head;
      counts = omega (arith, a.counts, b.counts);
    }

pub noted_new : (n v o : ℕ) (P P' : Rows) (q q' : Pending) → v < 256 → o < 256 → P v o ≡ false → P' ≡ with_pair P v o → Pushed q q' (record { variable = v; object = o })
    → Noted n n P P' q q'
noted_new n v o P P' q q' v_in o_in fresh after push =
    record {
      same = refl;
      grows = rw after (new_grows P v o);
      held = λ h x y p. rw after (⊎_elim (λ old. new_grows P v o x y (h x y old)) (λ e. rw (e.0, e.1) (new_held P v o)) (push.only x y p));
      new = λ x y t. ⊎_elim inl (λ e. inr (rw (e.0, e.1) push.comes)) (new_only P v o x y (rw after at t));
      stays = push.stays;
      head = push.head;
      counts = rw after (omega (arith, push.tail, total_with P v o v_in o_in fresh));
    }
