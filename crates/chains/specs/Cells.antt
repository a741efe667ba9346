-- Rows as chains of cells with rising objects.
use Rattle.std.specs.Prelude.{◌≡◌, ℕ, zero, suc, ◌+◌, ◌<◌, ◌≤◌, min, Bool, cond, ◌&&◌, List, [], ◌∷◌, length, drop, Some, None, Option, ◌==◌, ◌≢◌, slice_index_or, slice_set, unwrap_or}
use Rattle.chains.specs.declared.Cell.{Cell}
use Rattle.constraints.specs.Rows.{Rows, total}
use Rattle.rows.specs.Stores.{in_range}

-- the link of a row's last cell
abbrev pub end : ℕ
end = 65535

-- the cell that a link leads to
abbrev pub cell_of : ℕ → Option ℕ
cell_of link = cond (link == end) None (Some link)

-- the link that leads there
abbrev pub link_to : Option ℕ → ℕ
link_to i = unwrap_or i end

abbrev pub cell_at : List Cell → ℕ → Cell
cell_at cs i = slice_index_or cs i (record { object = 0; link = 0 })

-- the cell after cell i
abbrev pub link_of : List Cell → Option ℕ → Option ℕ
link_of cs None = None
link_of cs (Some i) = cell_of (cell_at cs i).link

-- the object of a cell; the end of a row has one above all others
abbrev pub object_of : List Cell → Option ℕ → ℕ
object_of cs None = 65536
object_of cs (Some i) = (cell_at cs i).object

-- one step on, if cell i has the object o
abbrev pub step : List Cell → Option ℕ → ℕ → Option ℕ
step cs i o = cond (object_of cs i == o) (link_of cs i) i

-- the cell where the objects below o of the row that begins at cell h are passed
unfoldable pub reach : List Cell → Option ℕ → ℕ → Option ℕ
reach cs h zero = h
reach cs h (suc o) = step cs (reach cs h o) o

abbrev pub head_of : List (Option ℕ) → ℕ → Option ℕ
head_of hs v = slice_index_or hs v None

-- whether the object o is in the row that begins at h
abbrev pub in_row : List Cell → Option ℕ → ℕ → Bool
in_row cs h o = object_of cs (reach cs h o) == o

abbrev pub chain_pairs : List Cell → List (Option ℕ) → Rows
chain_pairs cs hs v o = in_range v o && in_row cs (head_of hs v) o

abbrev pub chain_room : List Cell → ℕ
chain_room cs = min (length cs) 16384

-- a cell at which the objects below o are passed: a used one, or the end
abbrev pub Passed : List Cell → ℕ → ℕ → Option ℕ → Type 0
Passed cs used o i = (o ≤ object_of cs i) × ((j : ℕ) → i ≡ Some j → (j < used) × (object_of cs i < 256))

-- the row that begins at h rises and ends
abbrev pub Rising : List Cell → ℕ → Option ℕ → Type 0
Rising cs used h = (o : ℕ) → o ≤ 65536 → Passed cs used o (reach cs h o)

abbrev pub RisingRows : List Cell → List (Option ℕ) → ℕ → Type 0
RisingRows cs hs used = (v : ℕ) → v < 256 → Rising cs used (head_of hs v)

-- one above the object of cell i; 0 where there is no cell
abbrev pub above : List Cell → Option ℕ → ℕ
above cs None = 0
above cs (Some i) = (cell_at cs i).object + 1

-- the place of the object o in the row that begins at h: after the cell `before`, and no later than the cell `after`
pub record Placed (cs : List Cell) (h : Option ℕ) (o : ℕ) (before after : Option ℕ) : Type 0 where
  pub low : above cs before ≤ o
  pub high : o ≤ object_of cs after
  pub here : reach cs h (above cs before) ≡ after
  pub prior : (before ≢ None) → reach cs h (object_of cs before) ≡ before

-- no cell is in two rows
abbrev pub Apart : List Cell → List (Option ℕ) → Type 0
Apart cs hs =
    (v w a b : ℕ) → v < 256 → w < 256 → a ≤ 65536 → b ≤ 65536
    → reach cs (head_of hs v) a ≡ reach cs (head_of hs w) b
    → (reach cs (head_of hs v) a ≢ None) → v ≡ w

-- the first `used` cells hold the rows, one pair each
pub record Sound (cs : List Cell) (hs : List (Option ℕ)) (used : ℕ) : Type 0 where
  pub rows : length hs ≡ 256
  pub few : used ≤ chain_room cs
  pub rising : RisingRows cs hs used
  pub apart : Apart cs hs
  pub counted : used ≡ total (chain_pairs cs hs)
  deriving IsProp as Sound-prop

-- cell `fresh` holds o and links to `after`
abbrev pub put_cell : List Cell → Option ℕ → ℕ → ℕ → List Cell
put_cell cs after fresh o = slice_set cs fresh (record { object = o; link = link_to after })

-- and the cell `before`, if there is one, links to it
abbrev pub linked_in : List Cell → Option ℕ → Option ℕ → ℕ → ℕ → List Cell
linked_in cs None after fresh o = put_cell cs after fresh o
linked_in cs (Some b) after fresh o =
    slice_set (put_cell cs after fresh o) b (record { object = (cell_at (put_cell cs after fresh o) b).object; link = fresh })

-- ds and gs are the cells cs and the heads hs, with cell `fresh` holding o between the cells `before` and `after` of row v
pub record Spliced (cs ds : List Cell) (hs gs : List (Option ℕ)) (fresh v o : ℕ) (before after : Option ℕ) : Type 0 where
  pub object : object_of ds (Some fresh) ≡ o
  pub link : link_of ds (Some fresh) ≡ after
  pub objects : (i : Option ℕ) → (i ≢ Some fresh) → object_of ds i ≡ object_of cs i
  pub links : (i : Option ℕ) → (i ≢ Some fresh) → (i ≢ before) → link_of ds i ≡ link_of cs i
  pub heads : (w : ℕ) → (w ≢ v) → head_of gs w ≡ head_of hs w
  pub first : before ≡ None → head_of gs v ≡ Some fresh
  pub later : (before ≢ None) → (link_of ds before ≡ Some fresh) × (head_of gs v ≡ head_of hs v)

-- the numbers of some cells
abbrev pub numbers : List Cell → List ℕ
numbers [] = []
numbers (c ∷ cs) = c.object ∷ c.link ∷ numbers cs

-- the cells past the room
abbrev pub chain_spare : List Cell → List ℕ
chain_spare cs = numbers (drop (chain_room cs) cs)
