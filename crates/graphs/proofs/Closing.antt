-- Warshall's closure, round by round.
use Rattle.std.proofs.Common.{◌≡◌, ℕ, ◌+◌, ◌<◌, ◌≤◌, Bool, true, false, ◌&&◌, ◌||◌, ltb, ◌≢◌, ◌⊎◌, List, Decides, sym, refl, ap, ◌∙◌, subst, inl, inr, ⊎_elim, arith}
use Rattle.std.proofs.lemmas.Bool.{cases_eq, or_cases, or_left, or_right, and_parts, and_from, ltb-true, lt-ltb}
use Rattle.graphs.specs.Matrix.{bit, row_bit, row_at, Put, Joined}
use Rattle.graphs.proofs.Rows.{row_bit_lem}
use Rattle.graphs.specs.Paths.{Reaches, here, step, drawn, Draws, Closure, Diagonal, Spread, Through}

-- ---- the diagonal

-- the diagonal of m is set below u
pub record Reflecting (m₀ m : List ℕ) (u : ℕ) : Type 0 where
  pub on : (x : ℕ) → x < u → bit m x x ≡ true
  pub off : (x v : ℕ) → x < 256 → v < 256 → x ≢ v → bit m x v ≡ bit m₀ x v

pub reflecting_more : (m₀ m m' : List ℕ) (u : ℕ) → u < 256 → Reflecting m₀ m u → Put 8 m m' u u → Reflecting m₀ m' (u + 1)
reflecting_more m₀ m m' u hu r p = record {
  on = λ x hx. ⊎_elim
      (λ e. subst (λ y. bit m' y y ≡ true) (sym e) p.here)
      (λ ne. p.row x x (omega arith) ne ∙ r.on x (omega arith))
      (cases_eq x u);
  off = λ x v hx hv ne. ⊎_elim
      (λ e. subst (λ y. bit m' y v ≡ bit m y v) (sym e) (p.column v hv (λ q. ne (e ∙ sym q))) ∙ r.off x v hx hv ne)
      (λ differ. p.row x v hv differ ∙ r.off x v hx hv ne)
      (cases_eq x u);
}

-- ---- one round

or_none : (a b : Bool) → a ≡ (a || (false && b))
or_none true b = refl
or_none false b = refl

-- the rows below u are joined
pub record Rounding (k : ℕ) (row m₀ m : List ℕ) (u : ℕ) : Type 0 where
  pub done : (x v : ℕ) → x < u → v < 256 → bit m x v ≡ (bit m₀ x v || (bit m₀ x k && row_bit row v))
  pub rest : (x v : ℕ) → u ≤ x → v < 256 → bit m x v ≡ bit m₀ x v

module _ (k : ℕ) (row m₀ m : List ℕ) (u : ℕ) (hk : k < 256) (r : Rounding k row m₀ m u) where
  pub rounding_joined : (m' : List ℕ) → bit m u k ≡ true → Joined 8 m m' row u → Rounding k row m₀ m' (u + 1)
  rounding_joined m' e j = record {
    done = λ x v hx hv. ⊎_elim
        (λ q. subst (λ y. bit m' y v ≡ (bit m₀ y v || (bit m₀ y k && row_bit row v))) (sym q)
        (j.joined v hv ∙ ap (λ b. b || row_bit row v) (r.rest u v (omega arith) hv)
        ∙ ap (λ b. bit m₀ u v || (b && row_bit row v)) (sym e ∙ r.rest u k (omega arith) hk)))
        (λ ne. j.others x v hv ne ∙ r.done x v (omega arith) hv)
        (cases_eq x u);
    rest = λ x v hx hv. j.others x v hv (omega arith) ∙ r.rest x v (omega arith) hv;
  }

  pub rounding_passed : bit m u k ≡ false → Rounding k row m₀ m (u + 1)
  rounding_passed e = record {
    done = λ x v hx hv. ⊎_elim
        (λ q. subst (λ y. bit m y v ≡ (bit m₀ y v || (bit m₀ y k && row_bit row v))) (sym q)
        (r.rest u v (omega arith) hv ∙ or_none (bit m₀ u v) (row_bit row v)
        ∙ ap (λ b. bit m₀ u v || (b && row_bit row v)) (sym e ∙ r.rest u k (omega arith) hk)))
        (λ ne. r.done x v (omega arith) hv)
        (cases_eq x u);
    rest = λ x v hx hv. r.rest x v (omega arith) hv;
  }

-- where the row is row k
pub spread_through : (k : ℕ) (m m' : List ℕ) → Spread k (row_at 8 m k) m m' → Through k m m'
spread_through k m m' s u v hu hv = s u v hu hv ∙ ap (λ b. bit m u v || (bit m u k && b)) (row_bit_lem 8 m k v hv)

-- ---- all rounds

pub reaches_append : {edge : ℕ → ℕ → Bool} {u w v : ℕ} → Reaches edge u w → Reaches edge w v → Reaches edge u v
reaches_append here q = q
reaches_append (step e p) q = step e (reaches_append p q)

-- a path of one edge or more, whose inner nodes are below k
pub data Via (edge : ℕ → ℕ → Bool) (k : ℕ) : ℕ → ℕ → Type 0 where
  one : {u v : ℕ} → edge u v ≡ true → Via edge k u v
  more : {u w v : ℕ} → edge u w ≡ true → w < k → Via edge k w v → Via edge k u v

-- a path with inner nodes below k + 1 goes through k, or has them below k
via_split : {edge : ℕ → ℕ → Bool} {k u v : ℕ} → Via edge (k + 1) u v → Via edge k u v ⊎ (Via edge k u k × Via edge k k v)
via_split (one e) = inl (one e)
via_split {edge} {k} (more {u} {w} {v} e h p) = go (cases_eq w k) (via_split p)
  where
    go : (w ≡ k) ⊎ (w ≡ k → ⊥) → Via edge k w v ⊎ (Via edge k w k × Via edge k k v) → Via edge k u v ⊎ (Via edge k u k × Via edge k k v)
    go (inl q) (inl r) = inr (one (subst (λ y. edge u y ≡ true) q e), subst (λ y. Via edge k y v) q r)
    go (inl q) (inr r) = inr (one (subst (λ y. edge u y ≡ true) q e), r.1)
    go (inr ne) (inl r) = inl (more e (omega arith) r)
    go (inr ne) (inr r) = inr (more e (omega arith) r.0, r.1)

-- after the rounds below k each bit is a path, and each path with inner nodes below k is a bit
pub record Closing (edge : ℕ → ℕ → Bool) (k : ℕ) (m : List ℕ) : Type 0 where
  pub sound : (u v : ℕ) → u < 256 → v < 256 → bit m u v ≡ true → Reaches edge u v
  pub complete : (u v : ℕ) → u < 256 → v < 256 → Via edge k u v → bit m u v ≡ true

pub closing_none : (m : List ℕ) → Closing (drawn m) 0 m
closing_none m = record {
  sound = λ u v hu hv e. step (and_from (ltb v 256) (bit m u v) (lt-ltb v 256 hv) e) here;
  complete = λ u v hu hv p. complete0 p;
}
  where
    complete0 : {u v : ℕ} → Via (drawn m) 0 u v → bit m u v ≡ true
    complete0 {u} {v} (one e) = (and_parts (ltb v 256) (bit m u v) e).1
    complete0 (more e h p) = absurd (omega arith)

pub closing_more : (edge : ℕ → ℕ → Bool) (k : ℕ) (m m' : List ℕ) → k < 256 → Closing edge k m → Through k m m' → Closing edge (k + 1) m'
closing_more edge k m m' hk c t = record {
  sound = λ u v hu hv e. ⊎_elim
      (c.sound u v hu hv)
      (λ b. let both = and_parts (bit m u k) (bit m k v) b in reaches_append (c.sound u k hu hk both.0) (c.sound k v hk hv both.1))
      (or_cases (bit m u v) (bit m u k && bit m k v) (sym (t u v hu hv) ∙ e));
  complete = λ u v hu hv p. t u v hu hv ∙ ⊎_elim
      (λ q. or_left (bit m u v) (bit m u k && bit m k v) (c.complete u v hu hv q))
      (λ q. or_right (bit m u v) (bit m u k && bit m k v) (and_from (bit m u k) (bit m k v) (c.complete u k hu hk q.0) (c.complete k v hk hv q.1)))
      (via_split p);
}

-- a path stays, or is one of a matrix's edges and more
reaches_via : (m : List ℕ) {u v : ℕ} → Reaches (drawn m) u v → (u ≡ v) ⊎ Via (drawn m) 256 u v
reaches_via m here = inl refl
reaches_via m (step {u} {w} {v} e p) = inr (⊎_elim
    (λ q. one (subst (λ y. drawn m u y ≡ true) q e))
    (λ q. more e (ltb-true w 256 (and_parts (ltb w 256) (bit m u w) e).0) q)
    (reaches_via m p))

pub closing_all : (m₀ m m' : List ℕ) → Closing (drawn m₀) 256 m → Diagonal m m' → Closure (drawn m₀) m'
closing_all m₀ m m' c d u v hu hv =
    ⊎_elim
    (λ q. subst (λ y. Decides (bit m' u y) (Reaches (drawn m₀) u y)) q ((λ _. here), λ _. d.on u hu))
    (λ ne. (
      λ e. c.sound u v hu hv (sym (d.off u v hu hv ne) ∙ e),
      λ p. d.off u v hu hv ne ∙ ⊎_elim (λ q. absurd (ne q)) (c.complete u v hu hv) (reaches_via m₀ p),
    ))
    (cases_eq u v)

-- ---- any graph

module _ (edge : ℕ → ℕ → Bool) (m : List ℕ) (d : Draws edge m) where
  reaches_from_drawn : {u v : ℕ} → u < 256 → Reaches (drawn m) u v → Reaches edge u v
  reaches_from_drawn hu here = here
  reaches_from_drawn hu (step {u} {w} {v} e p) =
      let both = and_parts (ltb w 256) (bit m u w) e in
      let hw = ltb-true w 256 both.0 in
      step (sym (d u w hu hw) ∙ both.1) (reaches_from_drawn hw p)

  module _ (inside : (u v : ℕ) → edge u v ≡ true → v < 256) where
    reaches_to_drawn : {u v : ℕ} → u < 256 → Reaches edge u v → Reaches (drawn m) u v
    reaches_to_drawn hu here = here
    reaches_to_drawn hu (step {u} {w} {v} e p) =
        let hw = inside u w e in
        step (and_from (ltb w 256) (bit m u w) (lt-ltb w 256 hw) (d u w hu hw ∙ e)) (reaches_to_drawn hw p)

    pub closure_of_drawn : (m' : List ℕ) → Closure (drawn m) m' → Closure edge m'
    closure_of_drawn m' c u v hu hv =
        ((λ e. reaches_from_drawn hu ((c u v hu hv).0 e)), λ p. (c u v hu hv).1 (reaches_to_drawn hu p))
