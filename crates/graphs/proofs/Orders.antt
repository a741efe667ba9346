-- Insertion keeps the order.
use Rattle.std.proofs.Common.{◌≡◌, ℕ, ◌+◌, ◌-◌, ◌<◌, ◌≤◌, Bool, true, not, ◌≢◌, ◌⊎◌, List, Option, Some, None, unwrap_or, get_or, sym, refl, ap, ◌∙◌, subst, subst₂, inl, inr, ⊎_elim, arith}
use Rattle.std.proofs.lemmas.Bool.{cases_eq, cases_lt, cases_order, and_parts, and_from, not-true, not_from_false, both_ways, cases_Bool}
use Rattle.std.specs.Option.{MatchOption}
use Rattle.graphs.specs.Matrix.{bit}
use Rattle.graphs.specs.Paths.{Reaches, Closure}
use Rattle.graphs.specs.Order.{Above, Arranged, above, FirstBelow, Inserted}
use Rattle.graphs.proofs.Closing.{reaches_append}

-- ---- one insertion

-- the places still hold nodes
pub nodes_more : (xs xs' : List ℕ) (n p : ℕ) → p ≤ n → ((k : ℕ) → k < n → get_or xs k 0 < n) → Inserted xs xs' n p n
    → (k : ℕ) → k < n + 1 → get_or xs' k 0 < n + 1
nodes_more xs xs' n p h inside i k hk =
    ⊎_elim
    (λ e. subst (λ q. get_or xs' q 0 < n + 1) (sym e) (omega (arith, i.here)))
    (⊎_elim
    (λ lt. omega (arith, i.before k lt, inside k (omega arith)))
    (λ lt. omega (arith, i.after k lt (omega arith), inside (k - 1) (omega arith))))
    (cases_order k p)

-- ---- the first place

pub first_below : (m xs : List ℕ) (u n : ℕ) (r : Option ℕ)
    → MatchOption r ((k : ℕ) → 0 ≤ k → k < n → above m u (get_or xs k 0) ≢ true)
    (λ p. (0 ≤ p) × (p < n) × (above m u (get_or xs p 0) ≡ true) × ((k : ℕ) → 0 ≤ k → k < p → above m u (get_or xs k 0) ≢ true))
    → FirstBelow m xs u n (unwrap_or r n)
first_below m xs u n None none = record { within = omega arith; none = λ i below. none i (omega arith) below; here = λ below. absurd (omega (arith, below)) }
first_below m xs u n (Some p) found = record { within = omega (arith, found.1); none = λ i below. found.3 i (omega arith) below; here = λ below. found.2 }

-- ---- the order

above_trans : {edge : ℕ → ℕ → Bool} {u v w : ℕ} → Above edge u v → Above edge v w → Above edge u w
above_trans a b = record { there = reaches_append a.there b.there; apart = λ r. a.apart (reaches_append b.there r) }

module _ (edge : ℕ → ℕ → Bool) (m : List ℕ) (c : Closure edge m) where
  above_from : (u v : ℕ) → u < 256 → v < 256 → above m u v ≡ true → Above edge u v
  above_from u v hu hv e =
      let both = and_parts (bit m u v) (not (bit m v u)) e in
      record { there = (c u v hu hv).0 both.0; apart = λ r. both_ways (bit m v u) (not-true (bit m v u) both.1) ((c v u hv hu).1 r) }

  above_to : (u v : ℕ) → u < 256 → v < 256 → Above edge u v → above m u v ≡ true
  above_to u v hu hv a =
      and_from (bit m u v) (not (bit m v u)) ((c u v hu hv).1 a.there)
      (not_from_false (bit m v u) (⊎_elim (λ t. absurd (a.apart ((c v u hv hu).0 t))) (λ f. f) (cases_Bool (bit m v u))))

  module _ (xs xs' : List ℕ) (n p : ℕ) (hn : n < 256) (a : Arranged edge xs n) (f : FirstBelow m xs n n p) (i : Inserted xs xs' n p n) where
    -- where the node at place k of the new order stood, for k other than p
    moved : (k : ℕ) → k < n + 1 → k ≢ p
        → (j : ℕ) × (j < n) × (get_or xs' k 0 ≡ get_or xs j 0) × (((k < p) × (j ≡ k)) ⊎ ((p < k) × (j + 1 ≡ k)))
    moved k hk ne =
        ⊎_elim
        (λ lt. (k, omega (arith, f.within), i.before k lt, inl (lt, refl)))
        (λ le. (k - 1, omega arith, i.after k (omega arith) (omega arith), inr (omega arith, omega arith)))
        (cases_lt k p)

    -- a node behind place p does not reach the new node from another component
    behind : (j : ℕ) → p ≤ j → j < n → Above edge (get_or xs j 0) n → ⊥
    behind j hp hj b =
        let down = above_from n (get_or xs p 0) hn (omega (arith, a.inside p (omega arith))) (f.here (omega arith)) in
        ⊎_elim
        (λ e. down.apart (subst (λ q. Reaches edge (get_or xs q 0) n) e b.there))
        (λ ne. a.sorted p j (omega arith) hj (above_trans b down))
        (cases_eq j p)

    -- a node before place p is not reached from the new node in another component
    ahead : (j : ℕ) → j < p → Above edge n (get_or xs j 0) → ⊥
    ahead j hp b = f.none j hp (above_to n (get_or xs j 0) hn (omega (arith, a.inside j (omega (arith, f.within)), f.within)) b)

    pub arranged_more : Arranged edge xs' (n + 1)
    arranged_more = record {
      inside = nodes_more xs xs' n p f.within a.inside i;
      once = λ j k hj hk e. ⊎_elim
          (λ q. let o = moved k hk (omega arith) in
          omega (arith, ap (λ x. get_or xs' x 0) q, i.here, o.2, a.inside o.0 o.1))
          (λ nj. let oj = moved j (omega arith) nj in ⊎_elim
          (λ q. omega (arith, ap (λ x. get_or xs' x 0) q, i.here, oj.2, a.inside oj.0 oj.1))
          (λ nk. let ok = moved k hk nk in a.once oj.0 ok.0 (omega (arith, oj.3, ok.3)) ok.1 (sym oj.2 ∙ e ∙ ok.2))
          (cases_eq k p))
          (cases_eq j p);
      covers = λ u hu. ⊎_elim
          (λ e. (p, omega (arith, f.within), i.here ∙ sym e))
          (λ ne. let o = a.covers u (omega arith) in ⊎_elim
          (λ lt. (o.0, omega (arith, o.1), i.before o.0 lt ∙ o.2))
          (λ le. (o.0 + 1, omega (arith, o.1), i.after (o.0 + 1) (omega arith) (omega (arith, o.1)) ∙ ap (λ q. get_or xs q 0) (omega arith) ∙ o.2))
          (cases_lt o.0 p))
          (cases_eq u n);
      sorted = λ j k hj hk b. ⊎_elim
          (λ q. let o = moved k hk (omega arith) in
          behind o.0 (omega (arith, o.3)) o.1 (subst₂ (Above edge) o.2 (ap (λ x. get_or xs' x 0) q ∙ i.here) b))
          (λ nj. let oj = moved j (omega arith) nj in ⊎_elim
          (λ q. ahead oj.0 (omega (arith, oj.3)) (subst₂ (Above edge) (ap (λ x. get_or xs' x 0) q ∙ i.here) oj.2 b))
          (λ nk. let ok = moved k hk nk in a.sorted oj.0 ok.0 (omega (arith, oj.3, ok.3)) ok.1 (subst₂ (Above edge) ok.2 oj.2 b))
          (cases_eq k p))
          (cases_eq j p);
    }
