-- A list of records as a map from names to notes.
use Rattle.std.proofs.Common.{◌≡◌, ℕ, zero, suc, ◌+◌, ◌<◌, ◌≤◌, Bool, true, false, cond, List, [], ◌∷◌, ◌++◌, map, length, get_or, take, set, Some, None, Option, sym, refl, ap, ◌∙◌, arith}
use mathlib.Core.Path.{fun_ext}
use Rattle.std.specs.Str.{bytes_eq}
use Rattle.std.proofs.lemmas.Bool.{false_from_ne_true}
use Rattle.std.proofs.lemmas.Slice.Eq.{bytes_eq-Decides}
use Rattle.numbering.specs.Keys.{Fresh}
use Rattle.names.specs.declared.record.Note.{Note}
use Rattle.names.specs.declared.record.NameRecord.{NameRecord}
use Rattle.names.specs.Notes.{name_in, note_of, with_note, total, weight, width, then_note, Updated, Rewritten}
use Rattle.names.specs.Index.{key_at, same_key}

abbrev pub names_of : List NameRecord → List (List ℕ)
names_of rs = map name_in rs

-- ---- tests

pub same_self : (n : List ℕ) → bytes_eq n n ≡ true
same_self n = (bytes_eq-Decides n n).1 refl

-- two tests that do not both hold may be asked in either order
swapped : {A : Type 0} (a b : Bool) (x y z : A) → (a ≡ true → b ≡ true → ⊥) → cond a x (cond b y z) ≡ cond b y (cond a x z)
swapped true true x y z never = absurd (never refl refl)
swapped true false x y z never = refl
swapped false true x y z never = refl
swapped false false x y z never = refl

again : {A : Type 0} (a : Bool) (x y z : A) → cond a x z ≡ cond a x (cond a y z)
again true x y z = refl
again false x y z = refl

joins : (a b n : List ℕ) → (bytes_eq a b ≡ true → ⊥) → bytes_eq a n ≡ true → bytes_eq b n ≡ true → ⊥
joins a b n never p q = never ((bytes_eq-Decides a b).1 ((bytes_eq-Decides a n).0 p ∙ sym ((bytes_eq-Decides b n).0 q)))

-- ---- one record of the list

pub key_in : (rs : List NameRecord) (i : ℕ) (d : NameRecord) → i < length rs → key_at (names_of rs) i ≡ name_in (get_or rs i d)
key_in [] i d h = absurd (omega arith)
key_in (r ∷ rs) zero d h = refl
key_in (r ∷ rs) (suc i) d h = key_in rs i d (omega arith)

pub fresh_rest : (k : List ℕ) (ks : List (List ℕ)) (p : ℕ) → Fresh (same_key (k ∷ ks)) (suc p) → Fresh (same_key ks) p
fresh_rest k ks p fresh j h e = fresh (suc j) (omega arith) e

pub note_at : (rs : List NameRecord) (p : ℕ) (d : NameRecord) → p < length rs → Fresh (same_key (names_of rs)) p
    → note_of rs (key_at (names_of rs) p) ≡ Some (get_or rs p d).note
note_at [] p d h fresh = absurd (omega arith)
note_at (r ∷ rs) zero d h fresh = rw (same_self (name_in r))
note_at (r ∷ rs) (suc p) d h fresh =
    rw (false_from_ne_true (bytes_eq (name_in r) (key_at (names_of rs) p)) (fresh 0 (omega arith)))
    (note_at rs p d (omega arith) (fresh_rest (name_in r) (names_of rs) p fresh))

pub unnoted : (rs : List NameRecord) (n : List ℕ) → ((j : ℕ) → j < length rs → bytes_eq (key_at (names_of rs) j) n ≡ true → ⊥)
    → note_of rs n ≡ None
unnoted [] n never = refl
unnoted (r ∷ rs) n never =
    rw (false_from_ne_true (bytes_eq (name_in r) n) (never 0 (omega arith))) (unnoted rs n (λ j h. never (suc j) (omega arith)))

-- a name that is not among those before it is not known before it
pub new_at : (rs : List NameRecord) (i : ℕ) → i < length rs → Fresh (same_key (names_of rs)) i
    → note_of (take i rs) (key_at (names_of rs) i) ≡ None
new_at [] i h fresh = absurd (omega arith)
new_at (r ∷ rs) zero h fresh = refl
new_at (r ∷ rs) (suc i) h fresh =
    rw (false_from_ne_true (bytes_eq (name_in r) (key_at (names_of rs) i)) (fresh 0 (omega arith)))
    (new_at rs i (omega arith) (fresh_rest (name_in r) (names_of rs) i fresh))

pub none_parts : (b : Bool) (k : Note) (o : Option Note) → cond b (Some k) o ≡ None → (b ≡ true → ⊥) × (o ≡ None)
none_parts true k o e = let z : ◌≡◌ {A = ℕ} 0 1 = cc in absurd (omega arith)
none_parts false k o e = ((λ f. let z : ◌≡◌ {A = ℕ} 0 1 = cc in omega arith), e)

pub absent : (rs : List NameRecord) (n : List ℕ) → note_of rs n ≡ None → (j : ℕ) → j < length rs → bytes_eq (key_at (names_of rs) j) n ≡ true → ⊥
absent [] n e j h = absurd (omega arith)
absent (r ∷ rs) n e zero h = (none_parts (bytes_eq (name_in r) n) r.note (note_of rs n) e).0
absent (r ∷ rs) n e (suc j) h = absent rs n (none_parts (bytes_eq (name_in r) n) r.note (note_of rs n) e).1 j (omega arith)

-- ---- one record changed, or one more

note_set : (rs : List NameRecord) (p : ℕ) (r : NameRecord) → p < length rs → Fresh (same_key (names_of rs)) p
    → name_in r ≡ key_at (names_of rs) p → (m : List ℕ) → note_of (set rs p r) m ≡ with_note (note_of rs) (name_in r) (Some r.note) m
note_set [] p r h fresh e m = absurd (omega arith)
note_set (q ∷ rs) zero r h fresh e m = rw e (again (bytes_eq (name_in q) m) (Some r.note) (Some q.note) (note_of rs m))
note_set (q ∷ rs) (suc p) r h fresh e m =
    ap (cond (bytes_eq (name_in q) m) (Some q.note))
    (note_set rs p r (omega arith) (fresh_rest (name_in q) (names_of rs) p fresh) e m)
    ∙ swapped (bytes_eq (name_in q) m) (bytes_eq (name_in r) m) (Some q.note) (Some r.note) (note_of rs m)
    (joins (name_in q) (name_in r) m (λ s. fresh 0 (omega arith) (rw e at s)))

total_set : (w : Note → ℕ) (rs : List NameRecord) (p : ℕ) (r d : NameRecord) → p < length rs
    → total w (set rs p r) + w (get_or rs p d).note ≡ total w rs + w r.note
total_set w [] p r d h = absurd (omega arith)
total_set w (q ∷ rs) zero r d h = omega arith
total_set w (q ∷ rs) (suc p) r d h = let e = total_set w rs p r d (omega arith) in omega arith

note_push : (rs : List NameRecord) (r : NameRecord) → note_of rs (name_in r) ≡ None
    → (m : List ℕ) → note_of (rs ++ r ∷ []) m ≡ with_note (note_of rs) (name_in r) (Some r.note) m
note_push [] r none m = refl
note_push (q ∷ rs) r none m =
    let parts = none_parts (bytes_eq (name_in q) (name_in r)) q.note (note_of rs (name_in r)) none in
    ap (cond (bytes_eq (name_in q) m) (Some q.note)) (note_push rs r parts.1 m)
    ∙ swapped (bytes_eq (name_in q) m) (bytes_eq (name_in r) m) (Some q.note) (Some r.note) (note_of rs m)
    (joins (name_in q) (name_in r) m parts.0)

pub total_push : (w : Note → ℕ) (rs : List NameRecord) (r : NameRecord) → total w (rs ++ r ∷ []) ≡ total w rs + w r.note
total_push w [] r = omega arith
total_push w (q ∷ rs) r = let e = total_push w rs r in omega arith

pub updated_set : (rs : List NameRecord) (p : ℕ) (r d : NameRecord) → p < length rs → Fresh (same_key (names_of rs)) p
    → name_in r ≡ key_at (names_of rs) p → Updated rs (set rs p r) (name_in r) (Some r.note)
updated_set rs p r d h fresh e = record {
  noted = fun_ext (note_set rs p r h fresh e);
  totals = λ w. rw (e, note_at rs p d h fresh) (total_set w rs p r d h);
}

pub updated_push : (rs : List NameRecord) (r : NameRecord) → note_of rs (name_in r) ≡ None → Updated rs (rs ++ r ∷ []) (name_in r) (Some r.note)
updated_push rs r none = record {
  noted = fun_ext (note_push rs r none);
  totals = λ w. rw none (let e = total_push w rs r in omega arith);
}

-- what is known of n is written again
pub updated_same : (rs : List NameRecord) (n : List ℕ) → Updated rs rs n (note_of rs n)
updated_same rs n = record {
  noted = fun_ext (λ m. kept m (bytes_eq n m) (bytes_eq-Decides n m).0);
  totals = λ w. refl;
}
  where
    kept : (m : List ℕ) (b : Bool) → (b ≡ true → n ≡ m) → note_of rs m ≡ cond b (note_of rs n) (note_of rs m)
    kept m true e = ap (note_of rs) (sym (e refl))
    kept m false e = refl

-- ---- sums of weights

-- a list is no longer than the variables of its blocks
pub length_width : (rs : List NameRecord) → length rs ≤ total width rs
length_width [] = omega arith
length_width (r ∷ rs) = let h = length_width rs in omega arith

pub total_le : (w v : Note → ℕ) → ((k : Note) → w k ≤ v k) → (rs : List NameRecord) → total w rs ≤ total v rs
total_le w v le [] = omega arith
total_le w v le (r ∷ rs) = omega (arith, le r.note, total_le w v le rs)

pub total_take : (w : Note → ℕ) (i : ℕ) (rs : List NameRecord) → total w (take i rs) ≤ total w rs
total_take w zero rs = omega arith
total_take w (suc i) [] = omega arith
total_take w (suc i) (r ∷ rs) = let h = total_take w i rs in omega arith

-- ---- records rewritten one by one

pub then_cond : (to : Note → Option Note) (b : Bool) (k : Note) (o : Option Note) → cond b (to k) (then_note to o) ≡ then_note to (cond b (Some k) o)
then_cond to true k o = refl
then_cond to false k o = refl

pub rewritten_none : (to : Note → Option Note) → Rewritten [] [] to
rewritten_none to = record { noted = λ n. refl; totals = λ w. refl }

-- one record more, of a new name
pub rewritten_more : (to : Note → Option Note) (bs cs more : List NameRecord) (r : NameRecord) → Rewritten bs cs to
    → note_of bs (name_in r) ≡ None → Updated cs more (name_in r) (to r.note) → Rewritten (bs ++ r ∷ []) more to
rewritten_more to bs cs more r so none step = record {
  noted = λ n.
      ap (λ f. f n) step.noted ∙ ap (cond (bytes_eq (name_in r) n) (to r.note)) (so.noted n)
      ∙ then_cond to (bytes_eq (name_in r) n) r.note (note_of bs n) ∙ ap (then_note to) (sym (note_push bs r none n));
  totals = λ w.
      let unknown = ap (weight w) (so.noted (name_in r) ∙ ap (then_note to) none) in
      omega (arith, unknown, step.totals w, so.totals w, total_push (λ k. weight w (to k)) bs r);
}
