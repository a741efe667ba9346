-- Keys that are lists: sameness is an equivalence, and same keys hash alike; the hash, one number further.
use Rattle.std.proofs.Common.{◌≡◌, ℕ, ◌+◌, ◌<◌, List, [], ◌∷◌, ◌++◌, length, get_or, take, sym, refl, subst, ap, ◌∙◌}
use Rattle.std.proofs.lemmas.List.{take_more}
use Rattle.std.specs.List.{AllZip, each_same}
use Rattle.std.proofs.lemmas.Slice.Eq.{bytes_eq-Decides}
use Rattle.numbering.specs.Keys.{Equivalence, HashAlike}
use Rattle.numbering.specs.Lists.{same_list, hash_of}

module _ (key : ℕ → List ℕ) (n : ℕ) where
  pub lists_equivalence : Equivalence n (same_list key)
  lists_equivalence =
      let is = λ (i j : ℕ). bytes_eq-Decides (key i) (key j) in
      record {
        reflexive = λ i hi. (is i i).1 refl;
        symmetric = λ i j hi hj e. (is j i).1 (sym ((is i j).0 e));
        transitive = λ i j k hi hj hk e f. (is i k).1 ((is i j).0 e ∙ (is j k).0 f);
      }

  pub lists_alike : (hash : List ℕ → ℕ) → HashAlike n (same_list key) (λ i. hash (key i))
  lists_alike hash i j hi hj e = ap hash ((bytes_eq-Decides (key i) (key j)).0 e)

-- one more item with its number
all_zip_push : {A B : Type 0} (R : A → B → Type 0) (xs : List A) (ys : List B) (x : A) (y : B) → AllZip R xs ys → R x y
    → AllZip R (xs ++ x ∷ []) (ys ++ y ∷ [])
all_zip_push R [] [] x y all last = (last, tt)
all_zip_push R [] (b ∷ ys) x y all last = absurd all
all_zip_push R (a ∷ xs) [] x y all last = absurd all
all_zip_push R (a ∷ xs) (b ∷ ys) x y all last = (all.0, all_zip_push R xs ys x y all.1 last)

pub all_zip_more : {A B : Type 0} (R : A → B → Type 0) (xs : List A) (ys : List B) (i : ℕ) (x : A) (y : B) → i < length xs
    → x ≡ get_or xs i x → AllZip R (take i xs) ys → R x y → AllZip R (take (i + 1) xs) (ys ++ y ∷ [])
all_zip_more R xs ys i x y less is all last =
    subst (λ taken. AllZip R taken (ys ++ y ∷ []))
    (sym (take_more xs i x less ∙ ap (λ z. take i xs ++ z ∷ []) (sym is)))
    (all_zip_push R (take i xs) ys x y all last)

-- the hash of items that are numbers
pub hash_items_same : (xs : List ℕ) (h : ℕ) → (ns : List ℕ) × (AllZip (λ x n. n ≡ x) xs ns) × (h ≡ hash_of ns) → h ≡ hash_of xs
hash_items_same xs h found = found.2 ∙ ap hash_of (each_same xs found.0 found.1)
