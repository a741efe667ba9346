-- A sound table: asked for a name, with one record changed, and with one more.
use Rattle.std.proofs.Common.{◌≡◌, ℕ, ◌+◌, ◌%◌, ◌<◌, ◌≤◌, Bool, true, false, cond, List, [], ◌∷◌, ◌++◌, length, get_or, take, set, replicate, Some, None, Option, sym, refl, ap, ◌∙◌, subst, arith}
use Rattle.std.specs.Option.{MatchOption, IsSomeAnd}
use mathlib.Core.Logic.{∥∥₁_elim}
use mathlib.Core.Path.{subst₂}
use denote.Struct.Props.{props}
use Rattle.std.proofs.lemmas.List.{length-map, length-take-le, length-set, map-append, take_more_set, get_or-take, set-get_or, map-set}
use Rattle.std.proofs.Math.Seq.{take-set-lt}
use Rattle.numbering.specs.Keys.{Fresh, Entry, Headed, Linked}
use Rattle.numbering.specs.Lists.{hash_of}
use Rattle.names.specs.declared.record.NameRecord.{NameRecord}
use Rattle.names.specs.Notes.{name_in, note_of, total, weight, width, Updated}
use Rattle.names.specs.Index.{key_at, same_key, hash_key, with_asked, Index}
use Rattle.names.specs.Tables.{Sound, Sound-prop, Changed}
use Rattle.names.proofs.Records.{names_of, key_in, note_at, unnoted, absent, total_push, updated_set, length_width}
use Rattle.names.proofs.Indexed.{headed_asked, linked_asked, unmatched, matched, index_push, index_none, index_fact}

module _ {records : List NameRecord} {used variables : ℕ} {heads links : List (Option ℕ)} where
  pub is_sound : ∥ Sound records used variables heads links ∥₁ → Sound records used variables heads links
  is_sound s =
      ∥∥₁_elim s
      (Sound-prop (hlevel props) (hlevel props) (index_fact (names_of (take used records)) heads links) (hlevel props) (hlevel props))
      (λ x. x)

pub sound_none : (records : List NameRecord) (links : List (Option ℕ)) → length records ≡ 256 → length links ≡ 256
    → Sound records 0 0 (replicate 256 None) links
sound_none records links long places = record {
  few = omega arith;
  long = long;
  index = index_none links places;
  counted = refl;
  room = omega arith;
}

module _ {records : List NameRecord} {used variables : ℕ} {heads links : List (Option ℕ)} (s : Sound records used variables heads links) where
  abbrev in_use : List NameRecord
  in_use = take used records

  pub used_long : length in_use ≡ used
  used_long = length-take-le used records (omega (arith, s.few, s.long))

  pub keys_long : length (names_of in_use) ≡ used
  keys_long = length-map in_use name_in ∙ used_long

  module _ (n : List ℕ) where
    pub asked_headed : Headed (same_key (with_asked in_use n)) (hash_key (with_asked in_use n)) heads used
    asked_headed =
        subst (Headed (same_key (with_asked in_use n)) (hash_key (with_asked in_use n)) heads) keys_long
        (headed_asked (names_of in_use) heads links s.index n)

    pub asked_linked : Linked (same_key (with_asked in_use n)) (hash_key (with_asked in_use n)) links used
    asked_linked =
        subst (Linked (same_key (with_asked in_use n)) (hash_key (with_asked in_use n)) links) keys_long
        (linked_asked (names_of in_use) heads links s.index n)

    -- no record of the bucket matches in the first m
    abbrev Missed : ℕ → Type 0
    Missed m =
        (j : ℕ) → j < m
        → Entry (same_key (with_asked in_use n)) (hash_key (with_asked in_use n)) (hash_key (with_asked in_use n) m % 256) j
        → same_key (with_asked in_use n) j m ≡ true → ⊥

    pub asked_missed : Missed used → note_of in_use n ≡ None
    asked_missed missed =
        unnoted in_use n (λ j h. unmatched (names_of in_use) heads links s.index n
        (subst Missed (sym keys_long) missed) j (omega (arith, keys_long, used_long)))

    pub asked_found : (p : ℕ) → p < used → same_key (with_asked in_use n) p used ≡ true → key_at (names_of in_use) p ≡ n
    asked_found p h e =
        matched (names_of in_use) heads links s.index n p (omega (arith, keys_long))
        (subst (λ m. same_key (with_asked in_use n) p m ≡ true) (sym keys_long) e)

    -- what is found, as a position
    pub looked_up : (found q : Option ℕ)
        → MatchOption found (Missed used) (λ f. (f < used) × (Fresh (same_key (with_asked in_use n)) f) × (same_key (with_asked in_use n) f used ≡ true))
        → MatchOption found (q ≡ None) (λ x. IsSomeAnd q (λ y. y ≡ x))
        → MatchOption q (note_of in_use n ≡ None) (λ p. (p < used) × (key_at (names_of in_use) p ≡ n))
    looked_up None q missed is = subst (λ o. MatchOption o (note_of in_use n ≡ None) (λ p. (p < used) × (key_at (names_of in_use) p ≡ n))) (sym is) (asked_missed missed)
    looked_up (Some f) None found is = absurd is
    looked_up (Some f) (Some p) found is = subst (λ x. (x < used) × (key_at (names_of in_use) x ≡ n)) (sym is) (found.0, asked_found f found.0 found.2)

  -- ---- the record at p

  module _ (p : ℕ) (h : p < used) (d : NameRecord) where
    record_at : get_or in_use p d ≡ get_or records p d
    record_at = get_or-take used records p d h

    pub known_at : note_of in_use (key_at (names_of in_use) p) ≡ Some (get_or records p d).note
    known_at =
        note_at in_use p d (omega (arith, used_long)) (s.index.fresh p (omega (arith, keys_long)))
        ∙ ap (λ r. Some r.note) record_at

    -- another record of the same name, with as many slots
    module _ (r : NameRecord) (named : name_in r ≡ name_in (get_or records p d)) where
      key_same : name_in r ≡ key_at (names_of in_use) p
      key_same = named ∙ ap name_in (sym record_at) ∙ sym (key_in in_use p d (omega (arith, used_long)))

      in_use_set : take used (set records p r) ≡ set in_use p r
      in_use_set = take-set-lt used records p r h

      names_same : names_of (take used (set records p r)) ≡ names_of in_use
      names_same =
          ap names_of in_use_set ∙ map-set name_in in_use p r ∙ ap (set (names_of in_use) p) key_same
          ∙ set-get_or (names_of in_use) p []

      pub updated_at : (n : List ℕ) → key_at (names_of in_use) p ≡ n → Updated in_use (take used (set records p r)) n (Some r.note)
      updated_at n e =
          subst (λ m. Updated in_use (take used (set records p r)) m (Some r.note)) (key_same ∙ e)
          (subst (λ rs. Updated in_use rs (name_in r) (Some r.note)) (sym in_use_set)
          (updated_set in_use p r d (omega (arith, used_long)) (s.index.fresh p (omega (arith, keys_long))) key_same))

      pub sound_at : r.note.slots ≡ (get_or records p d).note.slots → Sound (set records p r) used variables heads links
      sound_at slots =
          let sums = (updated_at (key_at (names_of in_use) p) refl).totals width in
          let old = ap (weight width) known_at in
          record {
            few = s.few;
            long = length-set records p r ∙ s.long;
            index = subst (λ ks. Index ks heads links) (sym names_same) s.index;
            counted = omega (arith, sums, old, s.counted);
            room = s.room;
          }

  -- ---- one record more

  module _ (r : NameRecord) (none : note_of in_use (name_in r) ≡ None) (fits : variables + width r.note ≤ 256) where
    pub roomy : used < 256
    roomy = omega (arith, length_width in_use, used_long, s.counted)

    pub in_use_push : take (used + 1) (set records used r) ≡ in_use ++ r ∷ []
    in_use_push = take_more_set records used r (omega (arith, roomy, s.long))

    pub sound_push : (b : ℕ) → hash_of (name_in r) % 256 ≡ b
        → Sound (set records used r) (used + 1) (variables + (r.note.slots + 1)) (set heads b (Some used)) (set links used (get_or heads b None))
    sound_push b is =
        let ks = names_of in_use in
        let pushed = index_push ks heads links s.index (name_in r) (omega (arith, roomy, keys_long))
        (λ j h. absent in_use (name_in r) none j (omega (arith, keys_long, used_long))) in
        record {
          few = omega (arith, roomy);
          long = length-set records used r ∙ s.long;
          index = subst (λ m. Index m (set heads b (Some used)) (set links used (get_or heads b None)))
              (sym (ap names_of in_use_push ∙ map-append name_in in_use (r ∷ [])))
              (subst₂ (λ m a. Index (ks ++ name_in r ∷ []) (set heads a (Some m)) (set links m (get_or heads a None))) keys_long is pushed);
          counted = let sum = ap (total width) in_use_push ∙ total_push width in_use r in omega (arith, sum, s.counted);
          room = fits;
        }

-- ---- what an update changes

module _ (rs more : List NameRecord) (n : List ℕ) (change : NameRecord → Unit {0} → NameRecord → Type 0) where
  pub changed_known : (r s : NameRecord) → note_of rs n ≡ Some r.note → change r tt s → Updated rs more n (Some s.note)
      → Changed change (note_of rs n) rs more n
  changed_known r s known changes step = subst (λ o. Changed change o rs more n) (sym known) (r, s, refl, changes, step)

pub chosen : {A : Type 0} (b : Bool) (x y : A) → true ≡ b → x ≡ cond b x y
chosen b x y e = ap (λ a. cond a x y) e

pub passed_over : {A : Type 0} (b : Bool) (x y : A) → false ≡ b → y ≡ cond b x y
passed_over b x y e = ap (λ a. cond a x y) e
