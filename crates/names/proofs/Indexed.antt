-- The index: asked for one more name, and with one more name.
use Rattle.std.proofs.Common.{◌≡◌, ℕ, ◌+◌, ◌%◌, ◌<◌, true, List, [], ◌∷◌, ◌++◌, length, get_or, set, replicate, Some, None, Option, sym, refl, ap, ◌∙◌, subst, ap₂, ⊎_elim, arith}
use std.HLevel.{Π_prop}
use denote.Struct.Props.{props}
use Rattle.std.specs.Str.{bytes_eq}
use Rattle.std.proofs.lemmas.Slice.Eq.{bytes_eq-Decides}
use Rattle.std.proofs.lemmas.Bool.{cases_eq}
use Rattle.std.proofs.lemmas.Nat.{mod_below}
use Rattle.std.proofs.lemmas.List.{get_or_append_left, get_or_push, length_push, length-set}
use Rattle.numbering.specs.Keys.{Fresh, Latest, Latest-prop, Entry, Headed, Linked}
use Rattle.numbering.specs.Lists.{hash_of}
use Rattle.numbering.proofs.Chains.{headed_none, headed_push, linked_push}
use Rattle.names.specs.Index.{key_at, same_key, hash_key, Index, Index-prop}

latest_like : (P Q : ℕ → Type 0) (i : ℕ) (h : Option ℕ) → ((j : ℕ) → j < i → P j → Q j) → ((j : ℕ) → j < i → Q j → P j) → Latest P i h → Latest Q i h
latest_like P Q i h to from l = record {
  within = l.within;
  holds = λ p e. to p (l.within p e) (l.holds p e);
  none = λ j ji q past. l.none j ji (from j ji q) past;
}

-- two lists that agree below i have the same index below i
module _ (ks ls : List (List ℕ)) (i : ℕ) (agree : (j : ℕ) → j < i → key_at ks j ≡ key_at ls j) where
  fresh_like : (r : ℕ) → r < i → Fresh (same_key ks) r → Fresh (same_key ls) r
  fresh_like r h fresh j hj e = fresh j hj (ap₂ bytes_eq (agree j (omega arith)) (agree r h) ∙ e)

  entry_like : (b j : ℕ) → j < i → Entry (same_key ks) (hash_key ks) b j → Entry (same_key ls) (hash_key ls) b j
  entry_like b j h e = (fresh_like j h e.0, ap (λ k. hash_of k % 256) (sym (agree j h)) ∙ e.1)

module _ (ks ls : List (List ℕ)) (i : ℕ) (agree : (j : ℕ) → j < i → key_at ks j ≡ key_at ls j) where
  back : (j : ℕ) → j < i → key_at ls j ≡ key_at ks j
  back j h = sym (agree j h)

  headed_like : (heads : List (Option ℕ)) → Headed (same_key ks) (hash_key ks) heads i → Headed (same_key ls) (hash_key ls) heads i
  headed_like heads hd b h =
      latest_like (Entry (same_key ks) (hash_key ks) b) (Entry (same_key ls) (hash_key ls) b) i (get_or heads b None)
      (entry_like ks ls i agree b) (entry_like ls ks i back b) (hd b h)

  linked_like : (links : List (Option ℕ)) → Linked (same_key ks) (hash_key ks) links i → Linked (same_key ls) (hash_key ls) links i
  linked_like links lk r h fresh =
      let b = hash_key ls r % 256 in
      latest_like (Entry (same_key ks) (hash_key ks) b) (Entry (same_key ls) (hash_key ls) b) r (get_or links r None)
      (λ j hj. entry_like ks ls i agree b j (omega arith)) (λ j hj. entry_like ls ks i back b j (omega arith))
      (subst (λ k. Latest (Entry (same_key ks) (hash_key ks) (hash_of k % 256)) r (get_or links r None)) (agree r h)
      (lk r h (fresh_like ls ks i back r h fresh)))

-- ---- an index, and one more name

module _ (ks : List (List ℕ)) (heads links : List (Option ℕ)) (is : Index ks heads links) (n : List ℕ) where
  kept : (j : ℕ) → j < length ks → key_at ks j ≡ key_at (ks ++ n ∷ []) j
  kept j h = sym (get_or_append_left ks (n ∷ []) [] j h)

  last : key_at (ks ++ n ∷ []) (length ks) ≡ n
  last = get_or_push ks n [] (length ks) refl

  pub headed_asked : Headed (same_key (ks ++ n ∷ [])) (hash_key (ks ++ n ∷ [])) heads (length ks)
  headed_asked = headed_like ks (ks ++ n ∷ []) (length ks) kept heads is.headed

  pub linked_asked : Linked (same_key (ks ++ n ∷ [])) (hash_key (ks ++ n ∷ [])) links (length ks)
  linked_asked = linked_like ks (ks ++ n ∷ []) (length ks) kept links is.linked

  -- what no entry of the bucket matches, no name matches
  pub unmatched : ((j : ℕ) → j < length ks → Entry (same_key (ks ++ n ∷ [])) (hash_key (ks ++ n ∷ [])) (hash_key (ks ++ n ∷ []) (length ks) % 256) j → same_key (ks ++ n ∷ []) j (length ks) ≡ true → ⊥)
      → (j : ℕ) → j < length ks → bytes_eq (key_at ks j) n ≡ true → ⊥
  unmatched missed j h e =
      let f : same_key (ks ++ n ∷ []) j (length ks) ≡ true = ap₂ bytes_eq (sym (kept j h)) last ∙ e in
      missed j h
      (fresh_like ks (ks ++ n ∷ []) (length ks) kept j h (is.fresh j h), ap (λ k. hash_of k % 256) ((bytes_eq-Decides (key_at (ks ++ n ∷ []) j) (key_at (ks ++ n ∷ []) (length ks))).0 f)) f

  pub matched : (j : ℕ) → j < length ks → same_key (ks ++ n ∷ []) j (length ks) ≡ true → key_at ks j ≡ n
  matched j h e = (bytes_eq-Decides (key_at ks j) n).0 (ap₂ bytes_eq (kept j h) (sym last) ∙ e)

  module _ (room : length ks < 256) (new : (j : ℕ) → j < length ks → bytes_eq (key_at ks j) n ≡ true → ⊥) where
    fresh_last : Fresh (same_key (ks ++ n ∷ [])) (length ks)
    fresh_last j h e = new j h (ap₂ bytes_eq (kept j h) (sym last) ∙ e)

    fresh_more : (i : ℕ) → i < length (ks ++ n ∷ []) → Fresh (same_key (ks ++ n ∷ [])) i
    fresh_more i h =
        let more = length_push ks n in
        ⊎_elim (λ (e : i ≡ length ks). subst (Fresh (same_key (ks ++ n ∷ []))) (sym e) fresh_last)
        (λ (ne : i ≡ length ks → ⊥). let lt : i < length ks = omega arith in fresh_like ks (ks ++ n ∷ []) (length ks) kept i lt (is.fresh i lt))
        (cases_eq i (length ks))

    pub index_push : Index (ks ++ n ∷ []) (set heads (hash_of n % 256) (Some (length ks))) (set links (length ks) (get_or heads (hash_of n % 256) None))
    index_push =
        let ls = ks ++ n ∷ [] in
        let b = hash_of n % 256 in
        let at : hash_key ls (length ks) % 256 ≡ b = ap (λ k. hash_of k % 256) last in
        record {
          buckets = length-set heads b (Some (length ks)) ∙ is.buckets;
          places = length-set links (length ks) (get_or heads b None) ∙ is.places;
          fresh = fresh_more;
          headed = subst (λ m. Headed (same_key ls) (hash_key ls) (set heads b (Some (length ks))) m) (sym (length_push ks n))
              (subst (λ a. Headed (same_key ls) (hash_key ls) (set heads a (Some (length ks))) (length ks + 1)) at
              (headed_push (same_key ls) (hash_key ls) heads (length ks) is.buckets headed_asked fresh_last));
          linked = subst (λ m. Linked (same_key ls) (hash_key ls) (set links (length ks) (get_or heads b None)) m) (sym (length_push ks n))
              (linked_push (same_key ls) (hash_key ls) links (length ks) (get_or heads b None) (omega (arith, is.places)) linked_asked
              (subst (λ a. Latest (Entry (same_key ls) (hash_key ls) a) (length ks) (get_or heads b None)) (sym at)
              (headed_asked b (mod_below (hash_of n) 256 (omega arith)))));
        }

pub index_none : (links : List (Option ℕ)) → length links ≡ 256 → Index [] (replicate 256 None) links
index_none links long = record {
  buckets = refl;
  places = long;
  fresh = λ i h. absurd (omega arith);
  headed = headed_none (same_key []) (hash_key []);
  linked = λ r h. absurd (omega arith);
}

-- ---- an index is a fact

entry_prop : (ks : List (List ℕ)) (b j : ℕ) → IsProp (Entry (same_key ks) (hash_key ks) b j)
entry_prop ks b j = hlevel props

entry_latest_prop : (ks : List (List ℕ)) (b i : ℕ) (h : Option ℕ) → IsProp (Latest (Entry (same_key ks) (hash_key ks) b) i h)
entry_latest_prop ks b i h = Latest-prop (hlevel props) (Π_prop (λ p. Π_prop (λ e. entry_prop ks b p))) (hlevel props)

pub index_fact : (ks : List (List ℕ)) (heads links : List (Option ℕ)) → IsProp (Index ks heads links)
index_fact ks heads links =
    Index-prop (hlevel props) (hlevel props) (hlevel props)
    (Π_prop (λ b. Π_prop (λ h. entry_latest_prop ks b (length ks) (get_or heads b None))))
    (Π_prop (λ r. Π_prop (λ h. Π_prop (λ fresh. entry_latest_prop ks (hash_key ks r % 256) r (get_or links r None)))))
