-- An engine that takes the blocks and words of a valid list.
use Rattle.std.proofs.Common.{◌≡◌, ℕ, zero, suc, ◌+◌, ◌<◌, ◌≤◌, List, [], ◌∷◌, length, get_or, take, Ok, sym, ap, arith}
use Rattle.std.proofs.lemmas.List.{take_more, length-take-le}
use Rattle.std.proofs.lemmas.Bool.{le-leb, lt-ltb}
use Rattle.constraints.specs.Constraint.{Valid, variables}
use Rattle.engine.specs.Meanings.{Meaning, gathering, block_answer, block_added, add_answer, word_added}
use Rattle.constraints.proofs.Formed.{formed_word}

variables_within : (bs : List ℕ) (i : ℕ) → i < length bs → variables (take i bs) + get_or bs i 0 ≤ variables bs
variables_within [] i h = absurd (omega arith)
variables_within (b ∷ bs) zero h = omega arith
variables_within (b ∷ bs) (suc i) h = let rest = variables_within bs i (omega arith) in omega arith

module _ (m : Meaning) (bs : List ℕ) (i : ℕ) (inside : i < length bs)
    (sized : (j : ℕ) → j < length bs → (0 < get_or bs j 0) × (get_or bs j 0 ≤ 8)) (few : variables bs ≤ 256) where
  abbrev pub blocks_to : ℕ → Meaning
  blocks_to k = gathering m (record { blocks = take k bs; words = [] })

  room : variables (take i bs) + get_or bs i 0 ≤ 256
  room = omega (arith, variables_within bs i inside)

  pub block_taken : block_answer (blocks_to i) (get_or bs i 0) ≡ Ok (variables (take i bs))
  block_taken =
      let (some, small) = sized i inside in
      rw (le-leb 1 (get_or bs i 0) some, le-leb (get_or bs i 0) 8 small, le-leb (variables (take i bs) + get_or bs i 0) 256 room)

  pub block_next : block_added (blocks_to i) (get_or bs i 0) ≡ blocks_to (i + 1)
  block_next =
      let (some, small) = sized i inside in
      rw (le-leb 1 (get_or bs i 0) some, le-leb (get_or bs i 0) 8 small, le-leb (variables (take i bs) + get_or bs i 0) 256 room)
      (ap (λ l. gathering m (record { blocks = l; words = [] })) (sym (take_more bs i 0 inside)))

module _ (m : Meaning) (bs words : List ℕ) (i : ℕ) (inside : i < length words) (valid : Valid (record { blocks = bs; words = words })) where
  abbrev pub words_to : ℕ → Meaning
  words_to k = gathering m (record { blocks = bs; words = take k words })

  short : length (take i words) < 512
  short = omega (arith, length-take-le i words (omega arith), valid.few_words)

  pub word_taken : add_answer (words_to i) (get_or words i 0) ≡ Ok tt
  word_taken = rw (formed_word bs (get_or words i 0) (valid.formed i inside), lt-ltb (length (take i words)) 512 short)

  pub word_next : word_added (words_to i) (get_or words i 0) ≡ words_to (i + 1)
  word_next =
      rw (formed_word bs (get_or words i 0) (valid.formed i inside), lt-ltb (length (take i words)) 512 short)
      (ap (λ l. gathering m (record { blocks = bs; words = l })) (sym (take_more words i 0 inside)))
