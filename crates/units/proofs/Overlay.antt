-- Writing a list over another, part by part.
use Rattle.std.proofs.Common.{◌≡◌, ℕ, zero, suc, ◌+◌, ◌<◌, ◌≤◌, List, [], ◌∷◌, ◌++◌, map, length, get_or, drop, set, Some, sym, ap, ◌∙◌, add-zero, arith}
use Rattle.std.specs.List.{flat_map, slice_get}
use Rattle.std.proofs.lemmas.List.{drop_more, drop_all, length-append}
use Rattle.std.proofs.lemmas.Option.{slice_get-get_or}
use Rattle.units.specs.Listing.{overlaid}

pub overlaid_append : {X : Type 0} (xs ys zs : List X) (n : ℕ) → overlaid xs n (ys ++ zs) ≡ overlaid (overlaid xs n ys) (n + length ys) zs
overlaid_append xs [] zs n = ap (λ (m : ℕ). overlaid xs m zs) (omega arith)
overlaid_append xs (y ∷ ys) zs n = overlaid_append (set xs n y) ys zs (n + 1) ∙ ap (λ (m : ℕ). overlaid (overlaid (set xs n y) (n + 1) ys) m zs) (omega arith)

pub nth_inside : {X : Type 0} (xs : List X) (i : ℕ) (x : X) → slice_get xs i ≡ Some x → i < length xs
nth_inside [] i x e = let z : ◌≡◌ {A = ℕ} 0 1 = cc in absurd (omega arith)
nth_inside (y ∷ xs) zero x e = omega arith
nth_inside (y ∷ xs) (suc i) x e = omega (arith, nth_inside xs i x e)

-- the element that is read next
drop_nth : {X : Type 0} (xs : List X) (i : ℕ) (x : X) → slice_get xs i ≡ Some x → drop i xs ≡ x ∷ drop (i + 1) xs
drop_nth xs i x e =
    let inside = nth_inside xs i x e in
    let same : Some (get_or xs i x) ≡ Some x = sym (slice_get-get_or xs i x inside) ∙ e in
    let here : get_or xs i x ≡ x = cc in
    drop_more xs i x inside ∙ ap (λ (w : _). w ∷ drop (i + 1) xs) here

-- what is left of a list, written over another from position n on
module _ {X Y : Type 0} (h : X → Y) (vs : List X) (n : ℕ) where
  pub lay_none : (xs : List Y) → overlaid xs (n + 0) (map h (drop 0 vs)) ≡ overlaid xs n (map h vs)
  lay_none xs = ap (λ (m : ℕ). overlaid xs m (map h vs)) (omega arith)

  pub lay_more : (xs : List Y) (i m : ℕ) (v : X) → slice_get vs i ≡ Some v → m ≡ n + i →
      overlaid xs (n + i) (map h (drop i vs)) ≡ overlaid (set xs m (h v)) (n + (i + 1)) (map h (drop (i + 1) vs))
  lay_more xs i m v e is =
      ap (λ (l : List X). overlaid xs (n + i) (map h l)) (drop_nth vs i v e)
      ∙ ap (λ (a : ℕ). overlaid (set xs (n + i) (h v)) a (map h (drop (i + 1) vs))) (omega arith)
      ∙ ap (λ (a : ℕ). overlaid (set xs a (h v)) (n + (i + 1)) (map h (drop (i + 1) vs))) (sym is)

  pub lay_all : (xs : List Y) (i : ℕ) → length vs ≤ i → overlaid xs (n + i) (map h (drop i vs)) ≡ xs
  lay_all xs i long = ap (λ (l : List X). overlaid xs (n + i) (map h l)) (drop_all i vs long)

-- the lists that f gives for a text's statements, written one after another: k elements stand, and those of ss are left
pub record Writing {S X : Type 0} (f : S → List X) (all : List S) (before : List X) (from k : ℕ) (out : List X) (ss : List S) : Type 0 where
  pub written : overlaid out (from + k) (flat_map f ss) ≡ overlaid before from (flat_map f all)
  pub counted : k + length (flat_map f ss) ≡ length (flat_map f all)

module _ {S X : Type 0} (f : S → List X) (all : List S) (before : List X) (from : ℕ) where
  pub writing_none : Writing f all before from 0 before all
  writing_none = record { written = ap (λ (n : ℕ). overlaid before n (flat_map f all)) (add-zero from); counted = omega arith }

  pub writing_more : (k j : ℕ) (out next : List X) (s : S) (ss : List S) → next ≡ overlaid out (from + k) (f s) → j ≡ k + length (f s) →
      Writing f all before from k out (s ∷ ss) → Writing f all before from j next ss
  writing_more k j out next s ss e n h =
      record {
        written =
            ap (λ (xs : List X). overlaid xs (from + j) (flat_map f ss)) e
            ∙ ap (λ (m : ℕ). overlaid (overlaid out (from + k) (f s)) m (flat_map f ss)) (omega arith)
            ∙ sym (overlaid_append out (f s) (flat_map f ss) (from + k)) ∙ h.written;
        counted = omega (arith, n, h.counted, length-append (f s) (flat_map f ss));
      }

  pub writing_all : (k : ℕ) (out : List X) → Writing f all before from k out [] → (out ≡ overlaid before from (flat_map f all)) × (k ≡ length (flat_map f all))
  writing_all k out h = (h.written, omega (arith, h.counted))
