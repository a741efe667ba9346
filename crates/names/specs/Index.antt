-- The hash index over a list of names.
use Rattle.std.specs.Prelude.{◌≡◌, ℕ, ◌<◌, Bool, List, [], ◌∷◌, ◌++◌, map, length, slice_index_or, Option}
use Rattle.numbering.specs.Keys.{Fresh, Headed, Linked}
use Rattle.numbering.specs.Lists.{same_list, hash_of}
use Rattle.names.specs.declared.record.NameRecord.{NameRecord}
use Rattle.names.specs.Notes.{name_in}

abbrev pub key_at : List (List ℕ) → ℕ → List ℕ
key_at ks i = slice_index_or ks i []

abbrev pub same_key : List (List ℕ) → ℕ → ℕ → Bool
same_key ks = same_list (key_at ks)

abbrev pub hash_key : List (List ℕ) → ℕ → ℕ
hash_key ks i = hash_of (key_at ks i)

-- the names, and one more that is asked for
abbrev pub with_asked : List NameRecord → List ℕ → List (List ℕ)
with_asked rs n = map name_in rs ++ n ∷ []

-- the names are pairwise different, each bucket's head is its last name, and each link leads to the bucket's name before
pub record Index (ks : List (List ℕ)) (heads links : List (Option ℕ)) : Type 0 where
  pub buckets : length heads ≡ 256
  pub places : length links ≡ 256
  pub fresh : (i : ℕ) → i < length ks → Fresh (same_key ks) i
  pub headed : Headed (same_key ks) (hash_key ks) heads (length ks)
  pub linked : Linked (same_key ks) (hash_key ks) links (length ks)
  deriving IsProp as Index-prop
