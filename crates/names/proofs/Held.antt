-- For callers: a table's notes as a map, and its variables whatever the order of its records.
use Rattle.std.proofs.Common.{◌≡◌, ℕ, suc, ◌+◌, ◌<◌, Bool, true, false, cond, ◌⊎◌, List, [], ◌∷◌, length, Some, Option, Decides, sym, refl, ap, ◌∙◌, inl, inr, ⊎_elim, arith}
use Rattle.std.specs.Str.{bytes_eq}
use Rattle.std.proofs.lemmas.Bool.{false_from_ne_true}
use Rattle.std.proofs.lemmas.Slice.Eq.{bytes_eq-Decides}
use Rattle.std.proofs.lemmas.List.{length-map}
use Rattle.names.specs.declared.record.Note.{Note}
use Rattle.names.specs.declared.record.NameRecord.{NameRecord}
use Rattle.names.specs.declared.table.NameTable.{NameTable}
use Rattle.numbering.specs.Keys.{Fresh}
use Rattle.names.specs.Notes.{name_in, note_of, with_note, total, weight, width, listed, Once, Lists, sum_over}
use Rattle.names.specs.Index.{key_at, same_key}
use Rattle.names.specs.Held.{held, notes, variables_of}
use Rattle.names.proofs.Records.{names_of, same_self, none_parts, fresh_rest, unnoted}
use Rattle.names.proofs.Sounds.{is_sound}

-- ---- the map at the changed name, and elsewhere

pub with_note_same : (f : List ℕ → Option Note) (n : List ℕ) (x : Option Note) → with_note f n x n ≡ x
with_note_same f n x = ap (λ b. cond b x (f n)) (same_self n)

pub with_note_other : (f : List ℕ → Option Note) (n m : List ℕ) (x : Option Note) → (n ≡ m → ⊥) → with_note f n x m ≡ f m
with_note_other f n m x apart = ap (λ b. cond b x (f m)) (false_from_ne_true (bytes_eq n m) (λ e. apart ((bytes_eq-Decides n m).0 e)))

-- ---- the sum over names in any order

unlisted_parts : (b c : Bool) → cond b true c ≡ false → (b ≡ true → ⊥) × (c ≡ false)
unlisted_parts true c e = let z : ◌≡◌ {A = ℕ} 0 1 = cc in absurd (omega arith)
unlisted_parts false c e = ((λ f. let z : ◌≡◌ {A = ℕ} 0 1 = cc in omega arith), e)

listed_parts : (P : Type 0) (b c : Bool) → Decides b P → cond b true c ≡ true → P ⊎ ((P → ⊥) × (c ≡ true))
listed_parts P true c d e = inl (d.0 refl)
listed_parts P false c d e = inr ((λ p. let f = d.1 p in let z : ◌≡◌ {A = ℕ} 0 1 = cc in omega arith), e)

-- f and g differ at m only, where f gives 0 and g gives x
module _ (m : List ℕ) (f g : List ℕ → ℕ) (x : ℕ) (here : g m ≡ x) (elsewhere : (n : List ℕ) → (n ≡ m → ⊥) → g n ≡ f n) (nought : f m ≡ 0) where
  sum_unlisted : (ns : List (List ℕ)) → listed ns m ≡ false → sum_over g ns ≡ sum_over f ns
  sum_unlisted [] e = refl
  sum_unlisted (n ∷ ns) e =
      let parts = unlisted_parts (bytes_eq n m) (listed ns m) e in
      omega (arith, elsewhere n (λ same. parts.0 ((bytes_eq-Decides n m).1 same)), sum_unlisted ns parts.1)

  sum_listed : (ns : List (List ℕ)) → Once ns → listed ns m ≡ true → sum_over g ns ≡ x + sum_over f ns
  sum_listed [] once e = let z : ◌≡◌ {A = ℕ} 0 1 = cc in absurd (omega arith)
  sum_listed (n ∷ ns) once e =
      ⊎_elim
      (λ (same : n ≡ m). let rest = sum_unlisted ns (ap (listed ns) (sym same) ∙ once.0) in omega (arith, ap g same, ap f same, here, nought, rest))
      (λ (apart : (n ≡ m → ⊥) × (listed ns m ≡ true)). omega (arith, elsewhere n apart.0, sum_listed ns once.1 apart.1))
      (listed_parts (n ≡ m) (bytes_eq n m) (listed ns m) (bytes_eq-Decides n m) e)

sum_none : (ns : List (List ℕ)) → sum_over (λ n. 0) ns ≡ 0
sum_none [] = refl
sum_none (n ∷ ns) = let e = sum_none ns in omega arith

known_listed : (r : NameRecord) (rs : List NameRecord) (ns : List (List ℕ)) → Lists ns (note_of (r ∷ rs)) → (b : Bool) → listed ns (name_in r) ≡ b → b ≡ true
known_listed r rs ns lists true e = refl
known_listed r rs ns lists false e = absurd ((none_parts (bytes_eq (name_in r) (name_in r)) r.note (note_of rs (name_in r)) (lists.all (name_in r) e)).0 (same_self (name_in r)))

pub total_over : (w : Note → ℕ) (rs : List NameRecord) → ((i : ℕ) → i < length rs → Fresh (same_key (names_of rs)) i)
    → (ns : List (List ℕ)) → Lists ns (note_of rs) → total w rs ≡ sum_over (λ n. weight w (note_of rs n)) ns
total_over w [] fresh ns lists = sym (sum_none ns)
total_over w (r ∷ rs) fresh ns lists =
    let m = name_in r in
    let rest = total_over w rs (λ i h. fresh_rest m (names_of rs) i (fresh (suc i) (omega arith))) ns
    (record { once = lists.once; all = λ n e. (none_parts (bytes_eq m n) r.note (note_of rs n) (lists.all n e)).1 }) in
    let unknown = unnoted rs m (λ j h e. fresh (suc j) (omega arith) 0 (omega arith)
    ((bytes_eq-Decides _ _).1 (sym ((bytes_eq-Decides (key_at (names_of rs) j) m).0 e)))) in
    let sums = sum_listed m (λ n. weight w (note_of rs n)) (λ n. weight w (note_of (r ∷ rs) n)) (w r.note)
    (ap (λ b. weight w (cond b (Some r.note) (note_of rs m))) (same_self m))
    (λ n ne. ap (λ b. weight w (cond b (Some r.note) (note_of rs n))) (false_from_ne_true (bytes_eq m n) (λ e. ne (sym ((bytes_eq-Decides m n).0 e)))))
    (ap (weight w) unknown) ns lists.once (known_listed r rs ns lists (listed ns m) refl) in
    omega (arith, rest, sums)

-- the variables are those of the known names, in whatever order they are listed
pub variables_over : (t : NameTable) (ns : List (List ℕ)) → Lists ns (notes t) → variables_of t ≡ sum_over (λ n. weight width (notes t n)) ns
variables_over t ns lists =
    let s = is_sound t.sound in
    total_over width (held t) (λ i h. s.index.fresh i (omega (arith, length-map (held t) name_in))) ns lists
