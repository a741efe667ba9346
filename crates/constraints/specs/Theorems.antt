-- The theorems that the crate's functions carry as contracts.
use Rattle.std.specs.Prelude.{◌≡◌, ℕ, ◌+◌, ◌<◌, ◌≤◌, Bool, not, T, ◌↔◌, List, length, slice_index, slice_index_or}
use Rattle.constraints.specs.Rows.{Rows, ◌⊑◌, total, with_pair}
use Rattle.constraints.specs.Constraint.{System, Solves, Solution, Smallest, Valid, length_of, taken, first}
use Rattle.constraints.specs.Least.{least}
use Rattle.constraints.specs.Merge.{Source, copy_reach, mark, is_open, representative, Reduces}
use Rattle.constraints.specs.Reduced.{renamed_word, reduced, own_position}
use Rattle.constraints.specs.Fits.{Fits, position}
use Rattle.constraints.specs.Embed.{Embeds}
use Rattle.constraints.specs.Blocks.{start, AllPositive}
use Rattle.constraints.specs.Graph.{Graph, Walk, reaches}
use Rattle.constraints.specs.Known.{Right, table}

abbrev pub LeastIsSmallest : Type 0
LeastIsSmallest = (sys : System) → Valid sys → Smallest sys (least sys)

abbrev pub SmallestIsUnique : Type 0
SmallestIsUnique = (sys : System) → Valid sys → (R : Rows) → Smallest sys R → R ≡ least sys

abbrev pub InEverySolution : Type 0
InEverySolution = (sys : System) → Valid sys → (v o : ℕ) → T (least sys v o) ↔ ((Q : Rows) → Solution sys Q → T (Q v o))

-- it makes no difference whether rows may hold more than objects
abbrev pub ObjectsMakeNoDifference : Type 0
ObjectsMakeNoDifference = (sys : System) (v o : ℕ) → T (least sys v o) ↔ ((Q : Rows) → Solves sys Q → T (Q v o))

abbrev pub ObjectsAreTaken : Type 0
ObjectsAreTaken = (sys : System) (v o : ℕ) → T (least sys v o) → T (taken sys o)

abbrev pub PrefixIsContained : Type 0
PrefixIsContained = (n : ℕ) (sys : System) → least (first n sys) ⊑ least sys

abbrev pub ContainedHasFewer : Type 0
ContainedHasFewer = (R Q : Rows) → R ⊑ Q → total R ≤ total Q

abbrev pub NewPairCountsOne : Type 0
NewPairCountsOne = (R : Rows) (v o : ℕ) → v < 256 → o < 256 → T (not (R v o)) → total (with_pair R v o) ≡ total R + 1

abbrev pub EqualMarksEqualRows : Type 0
EqualMarksEqualRows =
    (sys : System) → Valid sys → (v w : ℕ)
    → ((s : Source) → mark sys (copy_reach sys) v s ≡ mark sys (copy_reach sys) w s) → least sys v ≡ least sys w

-- representatives with equal rows that leave open variables: the reduced system has the same rows
abbrev pub ReducedHasSameRows : Type 0
ReducedHasSameRows =
    (sys small : System) (rep : ℕ → ℕ) → Reduces rep sys small
    → ((v : ℕ) → least sys (rep v) ≡ least sys v) → ((v : ℕ) → T (is_open sys v) → rep v ≡ v)
    → ((v : ℕ) → least small (rep v) ≡ least sys v) × (least small ⊑ least sys)

-- what a merging layer hands down has the same rows, no more pairs, no more words, and is taken by the engine below
pub record KeepsRows (rep : ℕ → ℕ) (sys small : System) : Type 0 where
  pub rows : (v : ℕ) → least small (rep v) ≡ least sys v
  pub contained : least small ⊑ least sys
  pub fewer : total (least small) ≤ total (least sys)
  pub still_valid : Valid small
  pub no_longer : length small.words ≤ length sys.words

abbrev pub LayerIsRight : (System → ℕ → ℕ → Bool) → Type 0
LayerIsRight same =
    (sys : System) → Valid sys → KeepsRows (representative sys (same sys)) sys (reduced (representative sys (same sys)) sys)

abbrev pub OwnPosition : Type 0
OwnPosition =
    (rep : ℕ → ℕ) (sys : System) (j : ℕ) → j < length (reduced rep sys).words
    → let x = slice_index_or (reduced rep sys).words j 0 in
    let i = own_position rep sys.words x in
    (i < length sys.words) × (renamed_word rep (slice_index sys.words i) ≡ x)

-- rows within the smallest solution that meet every constraint are the smallest solution
abbrev pub SettledIsLeast : Type 0
SettledIsLeast = (sys : System) (R : Rows) → R ⊑ least sys → Solves sys R → R ≡ least sys

-- a full store of pairs of the smallest solution and one pair more: there are more pairs than room
abbrev pub FullIsTooMany : Type 0
FullIsTooMany =
    (sys : System) (R : Rows) (v o : ℕ) → R ⊑ least sys → v < 256 → o < 256 → T (not (R v o)) → T (least sys v o)
    → total R < total (least sys)

abbrev pub PositionIsEarliest : Type 0
PositionIsEarliest =
    (room : ℕ) (sys : System) (i : ℕ) → i < length sys.words
    → Fits room (first i sys) → room < total (least (first (i + 1) sys)) → position room sys ≡ i

-- the same system under other numbers: V v w says that v of the one is w of the other
abbrev pub RenumberingKeepsRows : Type 0
RenumberingKeepsRows =
    (V : ℕ → ℕ → Bool) (one other : System) → Embeds (λ v w. T (V v w)) one other → Embeds (λ v w. T (V w v)) other one
    → (v w x y : ℕ) → T (V v w) → T (V x y) → least one v x ≡ least other w y

abbrev pub EmbeddingKeepsPairs : Type 0
EmbeddingKeepsPairs =
    (V : ℕ → ℕ → Bool) (few many : System) → Embeds (λ v w. T (V v w)) few many
    → (v w x y : ℕ) → T (V v w) → T (V x y) → T (least few v x) → T (least many w y)

abbrev pub KnownOutcomes : Type 0
KnownOutcomes = Right table

-- reachability is by walks along edges
abbrev pub ReachesByWalks : Type 0
ReachesByWalks = (n : ℕ) (edge : Graph) (u v : ℕ) → T (reaches n edge u v) ↔ Walk n edge u v

-- an object is the first variable of one block, and has that block's length
abbrev pub ObjectsStartBlocks : Type 0
ObjectsStartBlocks =
    (blocks : List ℕ) → AllPositive blocks → (o : ℕ) → 0 < length_of blocks o
    → (i : ℕ) × (i < length blocks) × (o ≡ start blocks i) × (length_of blocks o ≡ slice_index blocks i)

-- a variable lies in one block, at one offset
abbrev pub OneSlot : Type 0
OneSlot =
    (blocks : List ℕ) (i j k l : ℕ) → k < slice_index blocks i → l < slice_index blocks j
    → start blocks i + k ≡ start blocks j + l → (i ≡ j) × (k ≡ l)
