-- `least` is the smallest solution.
use Rattle.std.proofs.Common.{◌≡◌, ℕ, zero, suc, ◌+◌, ◌*◌, ◌<◌, ◌≤◌, Bool, T, eqb, List, [], ◌∷◌, length, get_or, refl, inl, inr, not-suc-le-zero, arith, eqb→eq, ltb→lt, lt→ltb}
use lib.Dec.{eqb_refl}
use Rattle.std.proofs.lemmas.Bool.{cond_both, eqb-true}
use Rattle.std.proofs.lemmas.List.{length-take, get_or-take}
use Rattle.constraints.specs.Rows.{Rows, Relation, pairs, ◌⊑◌}
use Rattle.constraints.specs.Constraint.{Constraint, address, copy, load, store, decode, of_kind, kind, left, offset, right, System, variables, var_count, Valid, length_of, length_from, Meets, Has, Closed, Solves, constraint, left_of, some_constraint, takes, taken, first}
use Rattle.constraints.specs.Least.{follows, apply_all, range, least}
use Rattle.constraints.proofs.Finite.{or_cases, or_left, or_right, and_intro, and_left, and_right, any_intro, any_elim}
use Rattle.constraints.proofs.Rows.{at_rest, iterate_within}

from_below : (start : ℕ) (blocks : List ℕ) (o k : ℕ) → k < length_from start blocks o → o + k < start + variables blocks
from_below start [] o k = λ h. absurd (not-suc-le-zero h)
from_below start (n ∷ blocks) o k =
    cond_both (eqb o start) n (length_from (start + n) blocks o) (λ m. k < m → o + k < start + (n + variables blocks))
    (λ e h. omega (arith, eqb-true o start e))
    (λ e h. omega (arith, from_below (start + n) blocks o k h))

-- a block lies among the variables
pub block_below : (blocks : List ℕ) (o k : ℕ) → k < length_of blocks o → o + k < variables blocks
unfolding length_of
block_below blocks o k h = omega (arith, from_below 0 blocks o k h)

-- what follows from pairs of a relation that meets the constraint is in the relation
pub follows_sound : (blocks : List ℕ) (c : Constraint) (P : Relation) (R : Rows) → Meets blocks c P
    → ((v o : ℕ) → T (R v o) → P v o) → (v o : ℕ) → T (follows blocks c R v o) → P v o
unfolding follows
follows_sound blocks (address p q) P R meets within v o t =
    let l : v ≡ p = eqb→eq v p (and_left _ _ t) in
    let r : o ≡ q = eqb→eq o q (and_right _ _ t) in
    rw (l, r) meets
follows_sound blocks (copy p q) P R meets within v o t =
    let l : v ≡ p = eqb→eq v p (and_left _ _ t) in
    rw l (meets o (within q o (and_right _ _ t)))
follows_sound blocks (load p q k) P R meets within v x t =
    let l : v ≡ p = eqb→eq v p (and_left _ _ t) in
    let found = any_elim (variables blocks) _ (and_right _ _ t) in
    let o = found.0 in
    let both = and_left _ _ found.2 in
    rw l
    (meets o x (within q o (and_left _ _ both)) (ltb→lt _ _ (and_right _ _ both)) (within (o + k) x (and_right _ _ found.2)))
follows_sound blocks (store p k q) P R meets within v x t =
    let found = any_elim (variables blocks) _ (and_left _ _ t) in
    let o = found.0 in
    let both = and_left _ _ found.2 in
    let l : v ≡ o + k = eqb→eq v (o + k) (and_right _ _ found.2) in
    rw l
    (meets o x (within p o (and_left _ _ both)) (ltb→lt _ _ (and_right _ _ both)) (within q x (and_right _ _ t)))

-- rows from which nothing new follows meet the constraint
follows_complete : (blocks : List ℕ) (c : Constraint) (R : Rows)
    → ((v o : ℕ) → T (follows blocks c R v o) → T (R v o)) → Meets blocks c (pairs R)
unfolding follows
follows_complete blocks (address p q) R stable = stable p q (and_intro _ _ (eqb_refl p) (eqb_refl q))
follows_complete blocks (copy p q) R stable = λ o t. stable p o (and_intro _ _ (eqb_refl p) t)
follows_complete blocks (load p q k) R stable = λ o x t lt u.
    stable p x (and_intro _ _ (eqb_refl p)
    (any_intro (variables blocks) _ o (omega (arith, block_below blocks o k lt))
    (and_intro _ _ (and_intro _ _ t (lt→ltb _ _ lt)) u)))
follows_complete blocks (store p k q) R stable = λ o x t lt u.
    stable (o + k) x (and_intro _ _
    (any_intro (variables blocks) _ o (omega (arith, block_below blocks o k lt))
    (and_intro _ _ (and_intro _ _ t (lt→ltb _ _ lt)) (eqb_refl (o + k)))) u)

pub some_intro : (sys : System) (f : Constraint → Bool) (c : Constraint) → Has sys c → T (f c) → T (some_constraint sys f)
some_intro sys f c (i, lt, e) t = any_intro (length sys.words) (λ j. f (constraint sys j)) i lt (rw e t)

pub some_elim : (sys : System) (f : Constraint → Bool) → T (some_constraint sys f) → (c : Constraint) × Has sys c × T (f c)
some_elim sys f t =
    let (i, lt, u) = any_elim (length sys.words) (λ j. f (constraint sys j)) t in
    (constraint sys i, (i, lt, refl), u)

apply_sound : (sys : System) (P : Relation) → Closed sys P
    → (R : Rows) → ((v o : ℕ) → T (R v o) → P v o) → (v o : ℕ) → T (apply_all sys R v o) → P v o
unfolding apply_all
apply_sound sys P closed R within v o t =
    elim (or_cases _ _ t) [
      | inl old ↦ within v o old
      | inr new ↦
          let (c, has, u) = some_elim sys (λ c. follows sys.blocks c R v o) new in
          follows_sound sys.blocks c P R (closed c has) within v o u
    ]

apply_grows : (sys : System) (R : Rows) → R ⊑ apply_all sys R
unfolding apply_all
apply_grows sys R v o t = or_left _ _ t

stable_solves : (sys : System) (R : Rows) → apply_all sys R ⊑ R → Solves sys R
unfolding apply_all
stable_solves sys R stable c has =
    follows_complete sys.blocks c R (λ v o t.
    stable v o (or_right _ _ (some_intro sys (λ d. follows sys.blocks d R v o) c has t)))

-- every variable and object is below n
abbrev pub Below : ℕ → Relation
Below n v o = (v < n) × (o < n)

meets_below : (blocks : List ℕ) (n kind p k q : ℕ) → p < n → q < n → variables blocks ≤ n
    → Meets blocks (of_kind kind p k q) (Below n)
meets_below blocks n zero p k q l r wide = (l, r)
meets_below blocks n (suc zero) p k q l r wide = λ o h. (l, h.1)
meets_below blocks n (suc (suc zero)) p k q l r wide = λ o x h lt g. (l, g.1)
meets_below blocks n (suc (suc (suc m))) p k q l r wide = λ o x h lt g.
    (omega (arith, block_below blocks o k lt), g.1)

pub decoded_below : (blocks : List ℕ) (n w : ℕ) → left w < n → right w < n → variables blocks ≤ n → Meets blocks (decode w) (Below n)
unfolding decode
decoded_below blocks n w = meets_below blocks n (kind w) (left w) (offset w) (right w)

below_closed : (sys : System) → Closed sys (Below (range sys))
below_closed sys c (i, lt, e) =
    let w = get_or sys.words i 0 in
    rw e at (decoded_below sys.blocks (range sys) w (omega arith) (omega arith) (omega arith))

left_of_kind : (n kind p k q : ℕ) → p < n → left_of (of_kind kind p k q) < n
left_of_kind n zero p k q lt = lt
left_of_kind n (suc zero) p k q lt = lt
left_of_kind n (suc (suc zero)) p k q lt = lt
left_of_kind n (suc (suc (suc m))) p k q lt = lt

-- the left variable of a valid system's constraint is in a block
pub left_in : (sys : System) → Valid sys → (c : Constraint) → Has sys c → left_of c < var_count sys
unfolding decode
left_in sys valid c (i, lt, e) =
    let w = get_or sys.words i 0 in
    let below : left_of (decode w) < var_count sys =
    left_of_kind (var_count sys) (kind w) (left w) (offset w) (right w) (valid.formed i lt).left_in in
    rw e at below

-- bounds of a constraint's right variable and offset
abbrev pub RightBelow : ℕ → Constraint → Type 0
RightBelow n (address p o) = o < n
RightBelow n (copy p q) = q < n
RightBelow n (load p q k) = (q < n) × (k < 8)
RightBelow n (store p k q) = (q < n) × (k < 8)

right_of_kind : (n kind p k q : ℕ) → q < n → k < 8 → RightBelow n (of_kind kind p k q)
right_of_kind n zero p k q lt small = lt
right_of_kind n (suc zero) p k q lt small = lt
right_of_kind n (suc (suc zero)) p k q lt small = (lt, small)
right_of_kind n (suc (suc (suc m))) p k q lt small = (lt, small)

pub right_in : (sys : System) → Valid sys → (c : Constraint) → Has sys c → RightBelow (var_count sys) c
unfolding decode
right_in sys valid c (i, lt, e) =
    let w = get_or sys.words i 0 in
    let below : RightBelow (var_count sys) (decode w) =
    right_of_kind (var_count sys) (kind w) (left w) (offset w) (right w) (valid.formed i lt).right_in (omega arith) in
    rw e at below

-- induction: what is closed under the rules holds of every pair of the smallest solution
pub least_within : (sys : System) (P : Relation) → Closed sys P → (v o : ℕ) → T (least sys v o) → P v o
unfolding least
least_within sys P closed = iterate_within (apply_all sys) P (apply_sound sys P closed) (suc (range sys * range sys))

pub least_solves : (sys : System) → Solves sys (least sys)
unfolding least
least_solves sys =
    stable_solves sys (least sys) (at_rest (apply_all sys) (range sys) (apply_grows sys)
    (iterate_within (apply_all sys) (Below (range sys)) (apply_sound sys (Below (range sys)) (below_closed sys))))

pub taken_intro : (sys : System) (p o : ℕ) → Has sys (address p o) → T (taken sys o)
unfolding taken
taken_intro sys p o has = some_intro sys (takes o) (address p o) has (eqb_refl o)

-- an object in a row is the right side of an address constraint
pub least_taken : (sys : System) (v o : ℕ) → T (least sys v o) → T (taken sys o)
least_taken sys = least_within sys (λ v o. T (taken sys o)) closed
  where
    closed : Closed sys (λ v o. T (taken sys o))
    closed (address p o) has = taken_intro sys p o has
    closed (copy p q) has = λ o h. h
    closed (load p q k) has = λ o x h lt g. g
    closed (store p k q) has = λ o x h lt g. g

-- more constraints, larger rows
pub least_mono : (few many : System) → few.blocks ≡ many.blocks → ((c : Constraint) → Has few c → Has many c) → least few ⊑ least many
least_mono few many same more =
    least_within few (pairs (least many)) (λ c has. rw same (least_solves many c (more c has)))

pub first_within : (n : ℕ) (sys : System) → least (first n sys) ⊑ least sys
first_within n sys = least_mono (first n sys) sys refl has_more
  where
    has_more : (c : Constraint) → Has (first n sys) c → Has sys c
    has_more c (i, lt, e) =
        let short = length-take n sys.words in
        let i_in : i < n = omega arith in
        (i, omega arith, rw get_or-take at e)

pub taken_elim : (sys : System) (o : ℕ) → T (taken sys o) → (p : ℕ) × Has sys (address p o)
unfolding taken
taken_elim sys o t = let (c, has, u) = some_elim sys (takes o) t in the c has u
  where
    the : (c : Constraint) → Has sys c → T (takes o c) → (p : ℕ) × Has sys (address p o)
    the (address p q) has u =
        let same : q ≡ o = eqb→eq q o u in
        (p, rw same at has)
    the (copy p q) has u = absurd u
    the (load p q k) has u = absurd u
    the (store p k q) has u = absurd u
