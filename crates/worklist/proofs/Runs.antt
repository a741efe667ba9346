-- A turn of the loop: one word is walked, and the words that read a row which grew wait.
use Rattle.std.proofs.Common.{◌≡◌, ℕ, ◌+◌, ◌-◌, ◌*◌, ◌<◌, Bool, true, not, ◌&&◌, ◌||◌, eqb, ltb, leb, ◌⊎◌, List, length, sym, refl, ap, ◌∙◌, inl, inr, ⊎_elim, arith}
use Rattle.std.proofs.lemmas.Bool.{eq-eqb, ne_eqb, or_left, or_right, and_from, and_parts, le-leb, lt-ltb, cases_eq, eqb-true, or_cases, both_ways}
use Rattle.constraints.specs.Finite.{count}
use Rattle.constraints.specs.Rows.{Rows, pairs, total}
use Rattle.constraints.specs.Constraint.{System, length_of, constraint, Meets, Solves, first}
use Rattle.constraints.specs.declared.constraint.Constraint.{Constraint}
use Rattle.constraints.specs.declared.constraint.Constraint.TheVariants.{Address as address, Copy as copy, Load as load, Store as store}
use Rattle.constraints.specs.Least.{least}
use Rattle.constraints.proofs.Finite.{count_bound, count_one_more}
use Rattle.constraints.proofs.Rows.{total_mono, total_bound}
use Rattle.constraints.proofs.Least.{least_solves}
use Rattle.walks.specs.Rules.{Rule}
use Rattle.walks.proofs.Rules.{rule_grows, meets_rule}
use Rattle.walks.proofs.Scans.{true-T}
use Rattle.walks.proofs.Fronts.{met_first, solves_first}
use Rattle.worklist.specs.Waits.{Unread, Noted, Ready, Idle}

-- what is asked of rows that are unread since is asked of them now
rule_again : (blocks : List ℕ) (P Q : Rows) (c : Constraint) → Unread blocks c P Q → Rule blocks c (pairs P) (pairs Q) → Meets blocks c (pairs Q)
rule_again blocks P Q (address p o) unread m = m
rule_again blocks P Q (copy p q) unread m = λ o h. m o (unread q o (eq-eqb q q refl) h)
rule_again blocks P Q (load p q k) unread m = λ o x h l g.
    let back : o + k - k ≡ o = omega arith in
    let offset : (leb k (o + k) && ltb k (length_of blocks (o + k - k))) ≡ true =
    and_from _ _ (le-leb k (o + k) (omega arith)) (rw back (lt-ltb k (length_of blocks o) l)) in
    m o x (unread q o (or_left _ _ (eq-eqb q q refl)) h) l (unread (o + k) x (or_right _ _ offset) g)
rule_again blocks P Q (store p k q) unread m = λ o x h l g.
    m o x (unread p o (or_left _ _ (eq-eqb p p refl)) h) l (unread q x (or_right _ _ (eq-eqb q q refl)) g)

-- pairs that may still be added, and words that wait
unfoldable pub effort : Rows → (ℕ → Bool) → ℕ
effort P W = (65536 - total P) * 513 + count 512 W

abbrev Removed : ℕ → (ℕ → Bool) → (ℕ → Bool) → Type 0
Removed j W W' = (k : ℕ) → W' k ≡ (not (eqb k j) && W k)

one_less : (W W' : ℕ → Bool) (j : ℕ) → j < 512 → W j ≡ true → Removed j W W' → count 512 W ≡ count 512 W' + 1
one_less W W' j j_in w removed =
    count_one_more 512 W' W j j_in (rw (removed j, eq-eqb j j refl) tt) (true-T w)
    (λ k ne. sym (removed k ∙ ap (λ b. not b && W k) (ne_eqb k j ne)))

module _ (sys : System) (n m j : ℕ) (P P' : Rows) (W W₁ W' : ℕ → Bool) (small : j < 512) (waits : W j ≡ true)
    (removed : Removed j W W₁) (a : Noted sys n m P P' W₁ W') where
  pub effort_falls : effort P' W' < effort P W
  unfolding effort
  effort_falls = ⊎_elim
      (λ more. omega (arith, total_bound P', count_bound 512 W'))
      (λ still. omega (arith, total_mono P P' a.grows, one_less W W' j small waits (λ k. still k ∙ removed k)))
      a.moves

  pub ready_again : Ready sys n P W → Rule sys.blocks (constraint sys j) (pairs P) (pairs P') → Ready sys m P' W'
  ready_again ready done = record { short = rw a.same ready.short; inside = λ k w. rw a.same (inside k w); met = λ k lt. met k (rw a.same at lt) }
    where
      still : (k : ℕ) → (k ≡ j → ⊥) → W k ≡ true → W₁ k ≡ true
      still k ne w = removed k ∙ and_from (not (eqb k j)) (W k) (ap not (ne_eqb k j ne)) w

      inside : (k : ℕ) → W' k ≡ true → k < n
      inside k w = ⊎_elim (λ b. ready.inside k (and_parts (not (eqb k j)) (W k) (sym (removed k) ∙ b)).1) (λ l. l) (a.inside k w)

      now_met : (k : ℕ) → k < n → Rule sys.blocks (constraint sys k) (pairs P) (pairs P') → (W' k ≡ true) ⊎ Meets sys.blocks (constraint sys k) (pairs P')
      now_met k lt r = ⊎_elim inl (λ unread. inr (rule_again sys.blocks P P' (constraint sys k) unread r)) (a.kept k lt (omega (arith, ready.short)))

      met : (k : ℕ) → k < n → (W' k ≡ true) ⊎ Meets sys.blocks (constraint sys k) (pairs P')
      met k lt = ⊎_elim
          (λ e. now_met k lt (rw e done))
          (λ ne. ⊎_elim (λ w. inl (a.waits k (still k ne w)))
          (λ r. now_met k lt (rule_grows sys.blocks (pairs P) (pairs P) (pairs P') (constraint sys k) a.grows (meets_rule sys.blocks (constraint sys k) (pairs P) r))) (ready.met k lt))
          (cases_eq k j)

-- nothing waits: every word is met
pub idle_solves : (sys : System) (n : ℕ) (P : Rows) (W : ℕ → Bool) → Ready sys n P W → Idle W → Solves (first n sys) P
idle_solves sys n P W ready idle =
    solves_first sys n P (λ j lt j_in. ⊎_elim (λ w. absurd (both_ways (W j) (idle j) w)) (λ m. m) (ready.met j lt))

-- word i waits, and the words before it are met
pub ready_next : (sys : System) (i : ℕ) (P : Rows) (W W' : ℕ → Bool) → i < length sys.words → P ≡ least (first i sys) → Idle W
    → ((k : ℕ) → W' k ≡ (eqb k i || W k)) → Ready sys (i + 1) P W'
ready_next sys i P W W' i_in so_far idle inserted =
    record {
      short = omega arith;
      inside = λ j w. ⊎_elim (λ e. omega (arith, eqb-true j i e)) (λ t. absurd (both_ways (W j) (idle j) t)) (or_cases (eqb j i) (W j) (sym (inserted j) ∙ w));
      met = λ j lt. ⊎_elim (λ e. inl (inserted j ∙ or_left (eqb j i) (W j) (eq-eqb j i e)))
          (λ ne. inr (rw so_far (met_first sys i (least (first i sys)) (least_solves (first i sys)) j (omega arith) (omega arith)))) (cases_eq j i);
    }
