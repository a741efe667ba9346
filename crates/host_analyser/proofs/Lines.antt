-- Lines written over a buffer, byte by byte and block by block.
use Rattle.std.proofs.Common.{◌≡◌, ℕ, zero, suc, ◌+◌, ◌<◌, ◌≤◌, Bool, true, false, cond, ◌&&◌, ltb, List, [], ◌∷◌, ◌++◌, length, get_or, take, drop, set, sym, refl, ap, ◌∙◌, subst, ⊎_elim, arith}
use Rattle.std.specs.List.{flat_map, AllByRecursion}
use Rattle.std.proofs.lemmas.List.{take_more, take_all, length-take-le, drop_more, drop_all, length-append, get_or-map, length-map}
use Rattle.std.proofs.lemmas.Bool.{cases_lt, lt-ltb, le-ltb}
use Rattle.constraints.specs.Constraint.{System, variables, length_of}
use Rattle.constraints.specs.Blocks.{start, AllPositive}
use Rattle.constraints.proofs.Blocks.{length_of_start}
use Rattle.books.specs.Tables.{blocks}
use Rattle.units.specs.Listing.{overlaid}
use Rattle.units.proofs.Overlay.{overlaid_append}
use Rattle.declarations.specs.Declarations.{Entry}
use Rattle.books.specs.Targets.{functions_from, line, targets}
use Rattle.constraints.specs.Constraint.{var_count}
use Rattle.constraints.specs.Least.{least}
use Rattle.engine.specs.Meanings.{Meaning}
use Rattle.books.specs.Books.{Units}
use Rattle.standing.specs.declared.list.Owner.{Owner}
use Rattle.standing.specs.States.{owned_name, name_in_entry}
use Rattle.host_analyser.specs.Objects.{AnswersFor}
use Rattle.host_analyser.specs.Listing.{Short, Tabled, BlockAnswers, target_line}

module _ (out name : List ℕ) (n : ℕ) where
  -- one byte more
  pub line_more : (k : ℕ) → k < length name → set (overlaid out n (take k name)) (n + k) (get_or name k 0) ≡ overlaid out n (take (k + 1) name)
  line_more k inside =
      let long : length (take k name) ≡ k = length-take-le k name (omega arith) in
      ap (λ m. set (overlaid out n (take k name)) (n + m) (get_or name k 0)) (sym long)
      ∙ sym (overlaid_append out (take k name) (get_or name k 0 ∷ []) n)
      ∙ ap (overlaid out n) (sym (take_more name k 0 inside))

  -- the line feed behind the name
  pub line_end : (len : ℕ) → len ≡ length name → set (overlaid out n (take len name)) (n + len) 10 ≡ overlaid out n (line name)
  line_end len all =
      ap (λ xs. set (overlaid out n xs) (n + len) 10) (take_all len name (omega arith))
      ∙ ap (λ m. set (overlaid out n name) (n + m) 10) all
      ∙ sym (overlaid_append out name (10 ∷ []) n)

-- what is left of the list from a block on, and what one block more adds
module _ (row : ℕ → Bool) where
  abbrev pub left_lines : ℕ → List Entry → List ℕ
  left_lines first es = flat_map line (functions_from first es row)

  joined_one : (b : Bool) (name : List ℕ) (rest : List (List ℕ)) → flat_map line (cond b (name ∷ []) [] ++ rest) ≡ cond b (line name) [] ++ flat_map line rest
  joined_one true name rest = refl
  joined_one false name rest = refl

  pub lines_more : (first : ℕ) (e : Entry) (es : List Entry) (size : ℕ) → size ≡ suc e.slots
      → left_lines first (e ∷ es) ≡ target_line row size first e.name ++ left_lines (first + size) es
  lines_more first e es size is =
      joined_one (ltb 0 e.slots && row first) e.name (functions_from (first + suc e.slots) es row)
      ∙ ap (λ b. cond (b && row first) (line e.name) [] ++ left_lines (first + suc e.slots) es) (bigger e.slots)
      ∙ ap (λ k. target_line row k first e.name ++ left_lines (first + k) es) (sym is)
    where
      bigger : (k : ℕ) → ltb 0 k ≡ ltb 1 (suc k)
      bigger k = ⊎_elim
          (λ some. lt-ltb 0 k some ∙ sym (lt-ltb 1 (suc k) (omega arith)))
          (λ none. le-ltb 0 k none ∙ sym (le-ltb 1 (suc k) (omega arith)))
          (cases_lt 0 k)

  -- the buffer after one block more
  pub step_lines : (out before : List ℕ) (n first : ℕ) (e : Entry) (es : List Entry) (size : ℕ) (all : List ℕ) → size ≡ suc e.slots
      → overlaid out n (left_lines first (e ∷ es)) ≡ overlaid before 0 all → n + length (left_lines first (e ∷ es)) ≡ length all
      → (out' : List ℕ) (n' : ℕ) → out' ≡ overlaid out n (target_line row size first e.name) → n' ≡ n + length (target_line row size first e.name)
      → (overlaid out' n' (left_lines (first + size) es) ≡ overlaid before 0 all) × (n' + length (left_lines (first + size) es) ≡ length all)
  step_lines out before n first e es size all is written counted out' n' put moved =
      let one = target_line row size first e.name in
      let rest = left_lines (first + size) es in
      let split = lines_more first e es size is in (
        ap (λ o. overlaid o n' rest) put ∙ ap (λ k. overlaid (overlaid out n one) k rest) moved ∙ sym (overlaid_append out one rest n) ∙ ap (overlaid out n) (sym split) ∙ written,
        omega (arith, moved, counted, ap length split, length-append one rest),
      )

pub targets_left : (es : List Entry) (row : ℕ → Bool) → targets es row ≡ left_lines row 0 es
unfolding targets
targets_left es row = refl

-- the blocks of entries: where each begins
start_suc : (bs : List ℕ) (i : ℕ) → i < length bs → start bs (suc i) ≡ start bs i + get_or bs i 0
unfolding start
start_suc [] i h = absurd (omega arith)
start_suc (n ∷ bs) zero h = omega arith
start_suc (n ∷ bs) (suc i) h = let rest = start_suc bs i (omega arith) in omega (arith, rest)

pub start_more : (bs : List ℕ) (i : ℕ) → i < length bs → start bs (i + 1) ≡ start bs i + get_or bs i 0
start_more bs i h = let e : i + 1 ≡ suc i = omega arith in ap (start bs) e ∙ start_suc bs i h

pub start_within : (bs : List ℕ) (i : ℕ) → i < length bs → start bs i + get_or bs i 0 ≤ variables bs
unfolding start
start_within [] i h = absurd (omega arith)
start_within (n ∷ bs) zero h = omega arith
start_within (n ∷ bs) (suc i) h = let rest = start_within bs i (omega arith) in omega (arith, rest)

pub blocks_positive : (es : List Entry) → AllPositive (blocks es)
blocks_positive [] = tt
blocks_positive (e ∷ es) = (omega arith, blocks_positive es)

pub blocks_length : (es : List Entry) → length (blocks es) ≡ length es
blocks_length [] = refl
blocks_length (e ∷ es) = ap suc (blocks_length es)

pub blocks_at : (es : List Entry) (i : ℕ) (d : Entry) → i < length es → get_or (blocks es) i 0 ≡ suc (get_or es i d).slots
blocks_at [] i d h = absurd (omega arith)
blocks_at (e ∷ es) zero d h = refl
blocks_at (e ∷ es) (suc i) d h = blocks_at es i d (omega arith)

pub object_at : (es : List Entry) (i : ℕ) → i < length es → 0 < length_of (blocks es) (start (blocks es) i)
object_at es i h =
    let d : Entry = record { name = []; slots = 0 } in
    let long = blocks_length es in
    omega (arith, length_of_start (blocks es) i (blocks_positive es) (omega (arith, long)), blocks_at es i d h)

all_at : {X : Type 0} (P : X → Type 0) (xs : List X) (i : ℕ) (d : X) → AllByRecursion P xs → i < length xs → P (get_or xs i d)
all_at P [] i d all h = absurd (omega arith)
all_at P (x ∷ xs) zero d (first, rest) h = first
all_at P (x ∷ xs) (suc i) d (first, rest) h = all_at P xs i d rest (omega arith)

-- one block more, by an engine that still means what it meant
module _ (m : Meaning) (v : ℕ) (units : Units) (list : System) (owners : List Owner) (es : List Entry) (tabled : Tabled es m.system units list owners)
    (ready : AnswersFor m v) (i : ℕ) (inside : i < length list.blocks) (d : Owner) where
  abbrev no_entry : Entry
  no_entry = record { name = []; slots = 0 }

  abbrev entry_here : Entry
  entry_here = get_or es i no_entry

  here : i < length es
  here = omega (arith, inside, ap length tabled.laid, blocks_length es)

  size_here : get_or list.blocks i 0 ≡ suc entry_here.slots
  size_here = ap (λ bs. get_or bs i 0) tabled.laid ∙ blocks_at es i no_entry here

  owned_length : length owners ≡ length es
  owned_length = sym (length-map owners (owned_name units)) ∙ ap length tabled.owned ∙ length-map es name_in_entry

  name_here : owned_name units (get_or owners i d) ≡ entry_here.name
  name_here =
      sym (get_or-map (owned_name units) owners i d [] (omega (arith, here, owned_length)))
      ∙ ap (λ ns. get_or ns i []) tabled.owned
      ∙ get_or-map name_in_entry es i no_entry [] here

  pub turn_lines : (k : Meaning) → k ≡ m → (out before name : List ℕ) (n first size : ℕ) → size ≡ get_or list.blocks i 0 → name ≡ owned_name units (get_or owners i d)
      → let row = least m.system v in
      (first ≡ start (blocks es) i) × (overlaid out n (left_lines row first (drop i es)) ≡ overlaid before 0 (targets es row)) × (n + length (left_lines row first (drop i es)) ≡ length (targets es row))
      → (out' : List ℕ) (n' first' : ℕ)
      → (BlockAnswers k v first name → out' ≡ overlaid out n (target_line (least k.system v) size first name))
      → (BlockAnswers k v first name → n' ≡ n + length (target_line (least k.system v) size first name))
      → (first + size ≤ 256 → first' ≡ first + size)
      → (first' ≡ start (blocks es) (i + 1)) × (overlaid out' n' (left_lines row first' (drop (i + 1) es)) ≡ overlaid before 0 (targets es row)) × (n' + length (left_lines row first' (drop (i + 1) es)) ≡ length (targets es row))
  turn_lines k same out before name n first size size_is name_is (at_first, written, counted) out' n' first' put count add =
      let row = least m.system v in
      let long = blocks_length es in
      let size_here' : size ≡ suc entry_here.slots = size_is ∙ size_here in
      let within = start_within (blocks es) i (omega (arith, here, long)) in
      let at_block = blocks_at es i no_entry here in
      let few : first + size ≤ 256 = omega (arith, at_first, size_here', within, at_block, tabled.few) in
      let first_is : first' ≡ first + size = add few in
      let named : name ≡ entry_here.name = name_is ∙ name_here in
      let answers : BlockAnswers k v first name =
      record {
        ready = record { settled = ap (λ x. x.settled) same ∙ ready.settled; row = subst (λ x. v < var_count x.system) (sym same) ready.row };
        object = subst (λ x. 0 < length_of x.system.blocks first) (sym same) (subst (λ bs. 0 < length_of bs first) (sym tabled.held) (subst (λ x. 0 < length_of (blocks es) x) (sym at_first) (object_at es i here)));
        inside = omega (arith, few, size_here');
        short = subst (λ x. length x ≤ 24) (sym named) (all_at Short es i no_entry tabled.short here);
      } in
      let split = drop_more es i no_entry here in
      let put' : out' ≡ overlaid out n (target_line row size first entry_here.name) =
      put answers ∙ ap (λ x. overlaid out n (target_line (least x.system v) size first name)) same ∙ ap (λ x. overlaid out n (target_line row size first x)) named in
      let count' : n' ≡ n + length (target_line row size first entry_here.name) =
      count answers ∙ ap (λ x. n + length (target_line (least x.system v) size first name)) same ∙ ap (λ x. n + length (target_line row size first x)) named in
      let (w, k') = step_lines row out before n first entry_here (drop (i + 1) es) size (targets es row) size_here'
      (subst (λ xs. overlaid out n (left_lines row first xs) ≡ overlaid before 0 (targets es row)) split written)
      (subst (λ xs. n + length (left_lines row first xs) ≡ length (targets es row)) split counted) out' n' put' count' in (
        first_is ∙ omega (arith, at_first, size_here', at_block, start_more (blocks es) i (omega (arith, here, long))),
        subst (λ f. overlaid out' n' (left_lines row f (drop (i + 1) es)) ≡ overlaid before 0 (targets es row)) (sym first_is) w,
        subst (λ f. n' + length (left_lines row f (drop (i + 1) es)) ≡ length (targets es row)) (sym first_is) k',
      )

-- nothing is left
pub lines_done : (row : ℕ → Bool) (es : List Entry) (i first n : ℕ) (out before : List ℕ) → length es ≤ i
    → overlaid out n (left_lines row first (drop i es)) ≡ overlaid before 0 (targets es row) → n + length (left_lines row first (drop i es)) ≡ length (targets es row)
    → (out ≡ overlaid before 0 (targets es row)) × (n ≡ length (targets es row))
lines_done row es i first n out before far written counted =
    let none = drop_all i es far in (
      sym (ap (λ xs. overlaid out n (left_lines row first xs)) none) ∙ written,
      omega (arith, counted, ap (λ xs. length (left_lines row first xs)) none),
    )

pub start_none : (bs : List ℕ) → 0 ≡ start bs 0
unfolding start
start_none bs = refl

-- every block has a variable
pub few_entries : (es : List Entry) → variables (blocks es) ≤ 256 → length es ≤ 256
few_entries es few = omega (arith, few, at_least es)
  where
    at_least : (es : List Entry) → length es ≤ variables (blocks es)
    at_least [] = omega arith
    at_least (e ∷ es) = omega (arith, at_least es)
