-- The chains of the hash table, one position further.
use Rattle.std.proofs.Common.{◌≡◌, ◌≢◌, ℕ, ◌+◌, ◌%◌, ◌<◌, ◌≤◌, Bool, true, List, Option, Some, None, length, get_or, set, replicate, sym, refl, ap, ◌∙◌, subst, ⊎_elim, arith}
use Rattle.std.specs.Option.{ForSome}
use Rattle.std.proofs.lemmas.List.{get_or-set_same, get_or-set_other, get_or-replicate, length-set}
use Rattle.std.proofs.lemmas.Bool.{cases_eq, cases_lt}
use Rattle.std.proofs.lemmas.Nat.{mod_below}
use Rattle.numbering.specs.Keys.{Equivalence, HashAlike, IsFirst, Fresh, Latest, Entry, Linked, Headed, Numbered}

-- nothing stands below position 0
latest_none : (P : ℕ → Type 0) → Latest P 0 None
latest_none P = record { within = λ p e. cc; holds = λ p e. cc; none = λ j h _ _. omega arith }

-- position i without P changes nothing
latest_keep : (P : ℕ → Type 0) (i : ℕ) (h : Option ℕ) → Latest P i h → (P i → ⊥) → Latest P (i + 1) h
latest_keep P i h l no_i = record {
  within = λ p e. omega (arith, l.within p e);
  holds = l.holds;
  none = λ j ji p past. ⊎_elim (λ e. no_i (subst P e p)) (λ ne. l.none j (omega arith) p past) (cases_eq j i);
}

-- position i with P is the last
latest_push : (P : ℕ → Type 0) (i : ℕ) → P i → Latest P (i + 1) (Some i)
latest_push P i p = record {
  within = λ q e. let at : i ≡ q = cc in omega arith;
  holds = λ q e. let at : i ≡ q = cc in subst P at p;
  none = λ j ji _ past. omega (arith, past i refl);
}

module _ (same : ℕ → ℕ → Bool) (hash : ℕ → ℕ) where
  pub headed_none : Headed same hash (replicate 256 None) 0
  headed_none b h = subst (Latest (Entry same hash b) 0) (sym (get_or-replicate 256 b None None h)) (latest_none (Entry same hash b))

  pub headed_keep : (heads : List (Option ℕ)) (i : ℕ) → Headed same hash heads i → (Fresh same i → ⊥) → Headed same hash heads (i + 1)
  headed_keep heads i hd old b h = latest_keep (Entry same hash b) i (get_or heads b None) (hd b h) (λ e. old e.0)

  pub headed_push : (heads : List (Option ℕ)) (i : ℕ) → length heads ≡ 256 → Headed same hash heads i → Fresh same i
      → Headed same hash (set heads (hash i % 256) (Some i)) (i + 1)
  headed_push heads i long hd fresh b h =
      ⊎_elim
      (λ e. subst (λ a. Latest (Entry same hash b) (i + 1) (get_or (set heads a (Some i)) b None)) (sym e)
      (subst (Latest (Entry same hash b) (i + 1)) (sym (get_or-set_same heads b (Some i) None (omega arith)))
      (latest_push (Entry same hash b) i (fresh, e))))
      (λ ne. subst (Latest (Entry same hash b) (i + 1)) (sym (get_or-set_other heads (hash i % 256) b (Some i) None (λ e. ne (sym e))))
      (latest_keep (Entry same hash b) i (get_or heads b None) (hd b h) (λ e. ne e.1)))
      (cases_eq (hash i % 256) b)

  pub linked_keep : (links : List (Option ℕ)) (i : ℕ) → Linked same hash links i → (Fresh same i → ⊥) → Linked same hash links (i + 1)
  linked_keep links i lk old r h fresh =
      ⊎_elim (λ e. absurd (old (subst (Fresh same) e fresh))) (λ ne. lk r (omega arith) fresh) (cases_eq r i)

  pub linked_push : (links : List (Option ℕ)) (i : ℕ) (h : Option ℕ) → i < length links → Linked same hash links i
      → Latest (Entry same hash (hash i % 256)) i h → Linked same hash (set links i h) (i + 1)
  linked_push links i h within lk last r lt fresh =
      ⊎_elim
      (λ e. subst (λ x. Latest (Entry same hash (hash x % 256)) x (get_or (set links i h) x None)) (sym e)
      (subst (Latest (Entry same hash (hash i % 256)) i) (sym (get_or-set_same links i h None within)) last))
      (λ ne. subst (Latest (Entry same hash (hash r % 256)) r) (sym (get_or-set_other links i r h None ne)) (lk r (omega arith) fresh))
      (cases_eq r i)

  pub numbered_push : (first : List ℕ) (i f : ℕ) → i < length first → Numbered same first i → IsFirst same i f
      → Numbered same (set first i f) (i + 1)
  numbered_push first i f within nb is j lt =
      ⊎_elim
      (λ e. subst (λ x. IsFirst same x (get_or (set first i f) x 0)) (sym e)
      (subst (IsFirst same i) (sym (get_or-set_same first i f 0 within)) is))
      (λ ne. subst (IsFirst same j) (sym (get_or-set_other first i j f 0 ne)) (nb j (omega arith)))
      (cases_eq j i)

  module _ (n : ℕ) (eq : Equivalence n same) where
    -- a fresh position with the key of i is the first with that key
    pub first_found : (i r : ℕ) → i < n → r < i → Fresh same r → same r i ≡ true → IsFirst same i r
    first_found i r hi hr fresh e = record {
      alike = e;
      least = λ j hj k. fresh j hj (eq.transitive j i r (omega arith) hi (omega arith) k (eq.symmetric r i (omega arith) hi e));
    }

    -- a fresh position is the first with its own key
    pub first_fresh : (i : ℕ) → i < n → Fresh same i → IsFirst same i i
    first_fresh i hi fresh = record { alike = eq.reflexive i hi; least = fresh }

    -- the first position with the key of m is fresh, and not behind m
    fresh_first : (m f : ℕ) → m < n → IsFirst same m f → (f ≤ m) × Fresh same f
    fresh_first m f hm is =
        let le : f ≤ m = ⊎_elim (λ lt. absurd (is.least m lt (eq.reflexive m hm))) (λ le. le) (cases_lt m f) in
        (le, λ j hj k. is.least j hj (eq.transitive j f m (omega arith) (omega arith) hm k is.alike))

    -- what no entry of the bucket matches is fresh
    pub fresh_unmatched : HashAlike n same hash → (first : List ℕ) (i : ℕ) → i < n → Numbered same first i
        → ((j : ℕ) → j < i → Entry same hash (hash i % 256) j → same j i ≡ true → ⊥) → Fresh same i
    fresh_unmatched alike first i hi nb unmatched m hm e =
        let f = get_or first m 0 in
        let is = nb m hm in
        let at = fresh_first m f (omega arith) is in
        let fi : same f i ≡ true = eq.transitive f m i (omega arith) (omega arith) hi is.alike e in
        unmatched f (omega arith) (at.1, ap (λ x. x % 256) (alike f i (omega arith) hi fi)) fi

  pub stale : (i r : ℕ) → r < i → same r i ≡ true → Fresh same i → ⊥
  stale i r h e fresh = fresh r h e

-- what a search for the key of position i knows: the cursor stands at an entry of its bucket, and no entry past it has
-- the key
pub record Walk (same : ℕ → ℕ → Bool) (hash : ℕ → ℕ) (i : ℕ) (cursor : Option ℕ) : Type 0 where
  pub within : ForSome cursor (λ p. p < i)
  pub here : ForSome cursor (Entry same hash (hash i % 256))
  pub past : (j : ℕ) → j < i → Entry same hash (hash i % 256) j → same j i ≡ true → ForSome cursor (λ p. p < j) → ⊥

pub walk_step : (same : ℕ → ℕ → Bool) (hash : ℕ → ℕ) (links : List (Option ℕ)) (i at : ℕ) → Linked same hash links i → Walk same hash i (Some at)
    → same at i ≢ true → Walk same hash i (get_or links at None)
walk_step same hash links i at linked w other =
    let entry = w.here at refl in
    let within : at < i = w.within at refl in
    let latest = subst (λ b. Latest (Entry same hash b) at (get_or links at None)) entry.1 (linked at within entry.0) in
    record {
      within = λ p e. omega (arith, latest.within p e);
      here = latest.holds;
      past = λ j ji here is past. ⊎_elim (λ jat. latest.none j jat here past)
          (λ atj. ⊎_elim (λ e. other (subst (λ p. same p i ≡ true) e is))
          (λ ne. w.past j ji here is (λ p e. let same_place : at ≡ p = cc in omega arith)) (cases_eq j at))
          (cases_lt j at);
    }

-- the table and the numbers after the first i positions, where the numbers were `start` before
pub record Progress (same : ℕ → ℕ → Bool) (hash : ℕ → ℕ) (start first : List ℕ) (heads links : List (Option ℕ)) (i : ℕ) : Type 0 where
  pub buckets : length heads ≡ 256
  pub headed : Headed same hash heads i
  pub linked : Linked same hash links i
  pub numbered : Numbered same first i
  pub rest : (j : ℕ) → i ≤ j → get_or first j 0 ≡ get_or start j 0

module _ (same : ℕ → ℕ → Bool) (hash : ℕ → ℕ) (n : ℕ) (eq : Equivalence n same) (start first : List ℕ) (heads links : List (Option ℕ)) (i : ℕ)
    (p : Progress same hash start first heads links i) (hi : i < n) (long : i < length first) (room : i < length links) where
  rest_push : (f j : ℕ) → i + 1 ≤ j → get_or (set first i f) j 0 ≡ get_or start j 0
  rest_push f j h = get_or-set_other first i j f 0 (omega arith) ∙ p.rest j (omega arith)

  -- the key of position i is that of position r
  pub progress_found : (r : ℕ) → r < i → Fresh same r → same r i ≡ true → Progress same hash start (set first i r) heads links (i + 1)
  progress_found r hr fresh e = record {
    buckets = p.buckets;
    headed = headed_keep same hash heads i p.headed (stale same hash i r hr e);
    linked = linked_keep same hash links i p.linked (stale same hash i r hr e);
    numbered = numbered_push same hash first i r long p.numbered (first_found same hash n eq i r hi hr fresh e);
    rest = rest_push r;
  }

  -- the key of position i is new
  pub progress_fresh : HashAlike n same hash
      → ((j : ℕ) → j < i → Entry same hash (hash i % 256) j → same j i ≡ true → ⊥)
      → Progress same hash start (set first i i) (set heads (hash i % 256) (Some i)) (set links i (get_or heads (hash i % 256) None)) (i + 1)
  progress_fresh alike unmatched =
      let fresh = fresh_unmatched same hash n eq alike first i hi p.numbered unmatched in
      record {
        buckets = length-set heads (hash i % 256) (Some i) ∙ p.buckets;
        headed = headed_push same hash heads i p.buckets p.headed fresh;
        linked = linked_push same hash links i (get_or heads (hash i % 256) None) room p.linked
            (p.headed (hash i % 256) (mod_below (hash i) 256 (omega arith)));
        numbered = numbered_push same hash first i i long p.numbered (first_fresh same hash n eq i hi fresh);
        rest = rest_push i;
      }
