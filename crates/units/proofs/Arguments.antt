-- The words of a call: one for each argument, then that of the result.
use Rattle.std.proofs.Common.{◌≡◌, ℕ, zero, suc, ◌+◌, ◌<◌, ◌≤◌, min, List, [], ◌∷◌, ◌++◌, map, length, get_or, take, Some, None, Option, refl, sym, ap, ◌∙◌, arith, append-nil}
use Rattle.std.specs.List.{slice_get}
use Rattle.std.proofs.lemmas.List.{length-append, length-map, length-take, take_more, take_all, map_push, get_or-map}
use Rattle.grammar.specs.Grammar.{Place, Callee}
use Rattle.units.specs.Words.{Named}
use Rattle.units.specs.Statements.{cell, argument_word, argument_words, result_word, result_words}

arguments_length : (c : Callee) (k : ℕ) (given : List Place) → length (argument_words c k given) ≡ length given
arguments_length c k [] = refl
arguments_length c k (a ∷ given) = ap suc (arguments_length c (k + 1) given)

arguments_more : (c : Callee) (k : ℕ) (ps : List Place) (p : Place) → argument_words c k (ps ++ p ∷ []) ≡ argument_words c k ps ++ argument_word c (k + length ps) p ∷ []
arguments_more c k [] p = ap (λ (n : ℕ). argument_word c n p ∷ []) (omega arith)
arguments_more c k (q ∷ ps) p =
    ap (λ (ws : List Named). argument_word c k q ∷ ws) (arguments_more c (k + 1) ps p)
    ∙ ap (λ (n : ℕ). argument_word c k q ∷ (argument_words c (k + 1) ps ++ argument_word c n p ∷ [])) (omega arith)

-- the words of the first j of the arguments xs, read by v
module _ {X : Type 0} (f : Named → ℕ) (c : Callee) (v : X → Place) (xs : List X) where
  pub handed_length : (j : ℕ) → length (map f (argument_words c 2 (map v (take j xs)))) ≡ min j (length xs)
  handed_length j =
      length-map (argument_words c 2 (map v (take j xs))) f ∙ arguments_length c 2 (map v (take j xs)) ∙ length-map (take j xs) v ∙ length-take j xs

  pub handed_more : (j w : ℕ) (d : X) → j < length xs → w ≡ f (argument_word c (2 + j) (v (get_or xs j d))) →
      map f (argument_words c 2 (map v (take j xs))) ++ w ∷ [] ≡ map f (argument_words c 2 (map v (take (j + 1) xs)))
  handed_more j w d h e =
      let size : length (map v (take j xs)) ≡ j = length-map (take j xs) v ∙ length-take j xs ∙ (let z : min j (length xs) ≡ j = omega arith in z) in
      let taken : map v (take (j + 1) xs) ≡ map v (take j xs) ++ v (get_or xs j d) ∷ [] = ap (map v) (take_more xs j d h) ∙ map_push v (take j xs) (get_or xs j d) in
      ap (λ (n : ℕ). map f (argument_words c 2 (map v (take j xs))) ++ n ∷ []) e
      ∙ ap (λ (n : ℕ). map f (argument_words c 2 (map v (take j xs))) ++ f (argument_word c (2 + n) (v (get_or xs j d))) ∷ []) (sym size)
      ∙ sym (map_push f (argument_words c 2 (map v (take j xs))) (argument_word c (2 + length (map v (take j xs))) (v (get_or xs j d))))
      ∙ sym (ap (map f) (ap (argument_words c 2) taken ∙ arguments_more c 2 (map v (take j xs)) (v (get_or xs j d))))

  pub handed_all : (j : ℕ) → length xs ≤ j → map f (argument_words c 2 (map v (take j xs))) ≡ map f (argument_words c 2 (map v xs))
  handed_all j h = ap (λ (ys : List X). map f (argument_words c 2 (map v ys))) (take_all j xs h)

-- with the result's word, or without
pub handed_result : (f : Named → ℕ) (c : Callee) (ws : List Named) (t : Place) (w : ℕ) → w ≡ f (result_word (cell t) c) → map f ws ++ w ∷ [] ≡ map f (ws ++ result_words (Some t) c)
handed_result f c ws t w e = ap (λ (n : ℕ). map f ws ++ n ∷ []) e ∙ sym (map_push f ws (result_word (cell t) c))

pub handed_no_result : (f : Named → ℕ) (c : Callee) (ws : List Named) → map f ws ≡ map f (ws ++ result_words None c)
handed_no_result f c ws = sym (ap (map f) (append-nil ws))

module _ (f : Named → ℕ) (c : Callee) (t : Option Place) where
  -- word i of the arguments given from slot k on, and of the result
  pub word_argument : (k i : ℕ) (given : List Place) (d : Place) → i < length given →
      slice_get (map f (argument_words c k given ++ result_words t c)) i ≡ Some (f (argument_word c (k + i) (get_or given i d)))
  word_argument k i [] d h = absurd (omega arith)
  word_argument k zero (a ∷ given) d h = ap (λ (n : ℕ). Some (f (argument_word c n a))) (omega arith)
  word_argument k (suc i) (a ∷ given) d h =
      word_argument (k + 1) i given d (omega arith) ∙ ap (λ (n : ℕ). Some (f (argument_word c n (get_or given i d)))) (omega arith)

  pub word_result : (k i j : ℕ) (given : List Place) → i ≡ length given + j → slice_get (map f (argument_words c k given ++ result_words t c)) i ≡ slice_get (map f (result_words t c)) j
  word_result k i j [] e = ap (slice_get (map f (result_words t c))) (omega arith)
  word_result k zero j (a ∷ given) e = absurd (omega arith)
  word_result k (suc i) j (a ∷ given) e = word_result (k + 1) i j given (omega arith)

  -- the same for arguments xs, read by v
  module _ {X : Type 0} (v : X → Place) (xs : List X) where
    pub read_argument : (i w : ℕ) (d : X) → i < length xs → w ≡ f (argument_word c (2 + i) (v (get_or xs i d))) →
        Some w ≡ slice_get (map f (argument_words c 2 (map v xs) ++ result_words t c)) i
    read_argument i w d h e =
        ap Some e ∙ sym (ap (λ (p : Place). Some (f (argument_word c (2 + i) p))) (get_or-map v xs i d (v d) h))
        ∙ sym (word_argument 2 i (map v xs) (v d) (omega (arith, h, length-map xs v)))

    pub read_result : (i j : ℕ) → i ≡ length xs + j → slice_get (map f (result_words t c)) j ≡ slice_get (map f (argument_words c 2 (map v xs) ++ result_words t c)) i
    read_result i j e = sym (word_result 2 i j (map v xs) (omega (arith, e, length-map xs v)))

-- there is at most one result
pub one_result : (f : Named → ℕ) (c : Callee) (t : Option Place) (j : ℕ) → 0 < j → slice_get (map f (result_words t c)) j ≡ None
one_result f c None j h = refl
one_result f c (Some r) zero h = absurd (omega arith)
one_result f c (Some r) (suc j) h = refl

pub call_length : (c : Callee) (t : Option Place) (given : List Place) → length (argument_words c 2 given ++ result_words t c) ≡ length given + length (result_words t c)
call_length c t given = length-append (argument_words c 2 given) (result_words t c) ∙ ap (λ (n : ℕ). n + length (result_words t c)) (arguments_length c 2 given)
