-- What a list holds.
use Rattle.std.specs.Prelude.{◌≡◌, ℕ, ◌+◌, List, [], ◌∷◌, ◌++◌, length, take}
use Rattle.constraints.specs.Constraint.{System}
use Rattle.units.specs.declared.listing.ListedWord.{ListedWord}
use Rattle.standing.specs.declared.list.UnitList.{UnitList}
use Rattle.standing.specs.declared.list.Owner.{Owner}

abbrev pub list_in : UnitList → System
list_in l = record { blocks = l.blocks.items; words = l.words.items }

-- each word with its unit and its statement's offset
abbrev pub listed_in : UnitList → List ListedWord
listed_in l = take (length l.words.items) l.listed

abbrev pub owners_in : UnitList → List Owner
owners_in l = take (length l.blocks.items) l.owners

-- one block more
pub record Pushed (len : ℕ) (owner : Owner) (before after : UnitList) : Type 0 where
  pub blocks : (list_in after).blocks ≡ (list_in before).blocks ++ len ∷ []
  pub owners : owners_in after ≡ owners_in before ++ owner ∷ []
  pub variables : after.variables ≡ before.variables + len
