-- A turn of the loop: the pair that came first is handed on.
use Rattle.std.proofs.Common.{◌≡◌, ℕ, ◌+◌, ◌-◌, ◌*◌, ◌<◌, ◌≤◌, T, ◌⊎◌, length, sym, ap, ◌∙◌, inl, inr, ⊎_elim, arith}
use Rattle.std.proofs.lemmas.Bool.{cases_eq}
use Rattle.constraints.specs.Rows.{Rows, pairs, total}
use Rattle.constraints.specs.Constraint.{System, constraint, Solves, first}
use Rattle.constraints.specs.Least.{least}
use Rattle.constraints.proofs.Least.{least_solves}
use Rattle.constraints.proofs.Rows.{total_bound, total_mono}
use Rattle.walks.specs.Rules.{Rule}
use Rattle.walks.proofs.Rules.{rule_grows, rule_less, meets_rule, rule_meets}
use Rattle.walks.proofs.Fronts.{met_first, solves_first}
use Rattle.difference.specs.declared.pending.Pair.{Pair}
use Rattle.difference.specs.declared.pending.Pending.{Pending}
use Rattle.difference.specs.Queue.{Pends, Heads, Noted, Counted, Done, Ready, Idle}
use Rattle.difference.specs.Handed.{Handed}
use Rattle.difference.proofs.Handing.{Plus, rule_plus}
use Rattle.difference.specs.Notes.{counted_then}

-- pairs that may still be added, and pairs that wait
unfoldable pub effort : Rows → Pending → ℕ
effort P q = (65536 - total P) * 2 + (q.tail - q.head)

-- q₁ is q without its first pair
pub record Advanced (q q₁ : Pending) : Type 0 where
  pub pairs : q₁.pairs ≡ q.pairs
  pub head : q₁.head ≡ q.head + 1
  pub tail : q₁.tail ≡ q.tail

-- a pair that is not pending any more is held already
pub done_before : (n m : ℕ) (P P' : Rows) (q q' : Pending) → Noted n m P P' q q' → (x y : ℕ) → Done P' q' x y → T (P x y)
done_before n m P P' q q' a x y (t, not_pending) = ⊎_elim (λ old. old) (λ p. absurd (not_pending p)) (a.new x y t)

module _ (sys : System) (n m : ℕ) (pair : Pair) (P P' : Rows) (q q₁ q' : Pending) (heads : Heads q pair) (adv : Advanced q q₁) (a : Noted n m P P' q₁ q') where
  abbrev v : ℕ
  v = pair.variable

  abbrev o : ℕ
  o = pair.object

  pub effort_falls : effort P' q' < effort P q
  unfolding effort
  effort_falls = omega (arith, heads.some, adv.head, adv.tail, a.head, a.counts, total_mono P P' a.grows, total_bound P', q'.ordered)

  back : (x y : ℕ) → Pends q₁ x y → Pends q x y
  back x y (i, from, below, is_x, is_y) =
      (i, omega (arith, adv.head), omega (arith, adv.tail), rw adv.pairs at is_x, rw adv.pairs at is_y)

  rest : (x y : ℕ) → Pends q x y → Pends q₁ x y ⊎ ((x ≡ v) × (y ≡ o))
  rest x y (i, from, below, is_x, is_y) = ⊎_elim
      (λ e. inr (sym (rw e at is_x) ∙ ap (λ p. p.variable) heads.is, sym (rw e at is_y) ∙ ap (λ p. p.object) heads.is))
      (λ ne. inl (i, omega (arith, adv.head, ne), omega (arith, adv.tail), rw adv.pairs is_x, rw adv.pairs is_y))
      (cases_eq i q.head)

  first_pends : Pends q v o
  first_pends = (q.head, omega arith, heads.some, ap (λ p. p.variable) heads.is, ap (λ p. p.object) heads.is)

  now_done : (x y : ℕ) → Done P' q' x y → Plus (Done P q) v o x y
  now_done x y done = ⊎_elim
      (λ e. ⊎_elim (λ f. inr (e, f)) (λ ne. inl (kept (λ (g, h). ne h))) (cases_eq y o))
      (λ ne. inl (kept (λ (g, h). ne g)))
      (cases_eq x v)
    where
      kept : ((x ≡ v) × (y ≡ o) → ⊥) → Done P q x y
      kept other =
          (done_before n m P P' q₁ q' a x y done, λ p. ⊎_elim (λ p₁. done.1 (a.stays x y p₁)) other (rest x y p))

  pub ready_again : Ready sys n P q → ((j : ℕ) → j < n → Handed sys.blocks (constraint sys j) v o (pairs P) (pairs P')) → Ready sys m P' q'
  ready_again ready handed =
      record {
        short = rw a.same ready.short;
        held = a.held (λ x y p. ready.held x y (back x y p));
        counted = counted_then n m P P' q₁ q' (omega (arith, adv.tail, ready.counted)) a;
        asked = λ j lt.
            let c = constraint sys j in
            let lt' : j < n = omega (arith, a.same, lt) in
            rule_less sys.blocks (Done P' q') (Plus (Done P q) v o) (pairs P') c now_done
            (rule_plus sys.blocks (Done P q) (pairs P) (pairs P') v o (λ x y d. d.0) (ready.held v o first_pends) a.grows c (ready.asked j lt') (handed j lt'));
      }

-- nothing waits: every word is met
pub idle_solves : (sys : System) (n : ℕ) (P : Rows) (q : Pending) → Ready sys n P q → ((v o : ℕ) → Pends q v o → ⊥) → Solves (first n sys) P
idle_solves sys n P q ready none =
    solves_first sys n P (λ j lt j_in.
    rule_meets sys.blocks (constraint sys j) (pairs P)
    (rule_less sys.blocks (pairs P) (Done P q) (pairs P) (constraint sys j) (λ v o t. (t, none v o)) (ready.asked j lt)))

-- word i was walked over the smallest solution of the words before it
pub ready_next : (sys : System) (i m : ℕ) (P P' : Rows) (q q' : Pending) → i < length sys.words → P ≡ least (first i sys) → Idle P q
    → Noted (i + 1) m P P' q q' → Rule sys.blocks (constraint sys i) (pairs P) (pairs P') → Ready sys m P' q'
ready_next sys i m P P' q q' i_in so_far idle a walked =
    record {
      short = rw a.same (omega arith);
      held = a.held (λ v o p. absurd (idle.none v o p));
      counted = counted_then (i + 1) m P P' q q' idle.counted a;
      asked = λ j lt.
          let c = constraint sys j in
          rule_less sys.blocks (Done P' q') (pairs P) (pairs P') c (done_before (i + 1) m P P' q q' a)
          (⊎_elim (λ e. rw e walked) (λ ne. before j (omega (arith, a.same, lt, ne))) (cases_eq j i));
    }
  where
    before : (j : ℕ) → j < i → Rule sys.blocks (constraint sys j) (pairs P) (pairs P')
    before j lt =
        rule_grows sys.blocks (pairs P) (pairs P) (pairs P') (constraint sys j) a.grows
        (meets_rule sys.blocks (constraint sys j) (pairs P)
        (rw so_far (met_first sys i (least (first i sys)) (least_solves (first i sys)) j lt (omega arith))))

pub idle_from : (P : Rows) (q : Pending) → q.tail ≤ q.head → Counted P q → Idle P q
idle_from P q past counted = record { none = λ v o (i, from, below, is_x, is_y). omega arith; counted = counted }
