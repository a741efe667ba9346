-- Rows that grow by visits of the objects of a row.
use Rattle.std.proofs.Common.{ℕ, Result, refl, not-suc-le-zero}
use Rattle.std.specs.Fn.{Shared}
use denote.Ref.{MutBor}
use Rattle.constraints.specs.Rows.{Rows, Relation, pairs}
use Rattle.rows.specs.declared.StoreFault.{StoreFault}
use Rattle.walks.specs.Grown.{Grows, Adds}
use Rattle.walks.specs.Visits.{Visits, Visited, over, stopped, onward}
use Rattle.walks.proofs.Growth.{grows_none, grows_then, grown_refused}
use Rattle.walks.proofs.Scans.{Scanned, true-T, scan_more, scan_all}

-- what is asked of fewer rows, into more
abbrev pub Moves : (Relation → Relation → Type 0) → Type 1
Moves A = (P P' R R' : Relation) → ((v o : ℕ) → P v o → P' v o) → ((v o : ℕ) → R v o → R' v o) → A P' R → A P R'

-- A o is asked at every object o of row v
abbrev pub Each : ℕ → (ℕ → Relation → Relation → Type 0) → Relation → Relation → Type 0
Each v A P R = (o : ℕ) → P v o → A o P R

-- each visit of an object o asks A o of the rows: so the walk asks it of every object of the row
module _ {G : Type 0} {rows : G → Rows} {limit : G → ℕ} {notes : G → G → Type 0} (still : (s : G) → notes s s)
    (onward_notes : (s t u : G) → notes s t → notes t u → notes s u) {visits : G → ℕ → Result (Unit {0}) StoreFault → G → Type 0} (v : ℕ)
    (A : ℕ → Relation → Relation → Type 0) (moves : (o : ℕ) → Moves (A o))
    (grown : (s : G) (o : ℕ) (r : Result (Unit {0}) StoreFault) (t : G) → visits s o r t
    → Adds rows limit notes (A o) s t r) where
  grown_from : {i : ℕ} {s t : G} {r : Result (Unit {0}) StoreFault} (s₀ : G) → Grows rows limit notes (λ R. Each v A (pairs R) (pairs R)) s₀ s
      → Scanned (rows s₀) v i (λ o. A o (pairs (rows s₀)) (pairs (rows s))) → Visited rows visits v i s t r
      → Adds rows limit notes (Each v A) s₀ t r
  grown_from s₀ a before (over none) = record { grows = a; ends = scan_all _ _ v _ a.more _ before none }
  grown_from s₀ a before (stopped next seen) =
      grown_refused onward_notes _ _ _ _ _ a (λ R m h. m _ (h _ _ (true-T next.held))) _ _ _ _ (grown _ _ _ _ seen) refl
  grown_from s₀ a before (onward next seen later) =
      let b = grown _ _ _ _ seen in
      let here = moves _ _ _ _ _ a.more (λ v o t. t) b.ends in
      grown_from s₀ (grows_then onward_notes _ _ _ _ _ a (λ R m h. m _ (h _ _ (true-T next.held))) b.grows)
      (scan_more _ _ v _ a.more _ (λ x l p. moves x _ _ _ _ (λ v o t. t) b.grows.more (before x l p)) _ next here) later

  grown_each : {s t : G} {r : Result (Unit {0}) StoreFault} → Visited rows visits v 0 s t r
      → Adds rows limit notes (Each v A) s t r
  grown_each walked = grown_from _ (grows_none rows limit notes still (λ R. Each v A (pairs R) (pairs R)) _) (λ o l p. absurd (not-suc-le-zero l)) walked

-- the same of the calls of a closure
pub grown_calls : {F G : Type 0} {rows : G → Rows} {limit : G → ℕ} {notes : G → G → Type 0} (still : (s : G) → notes s s)
    (onward_notes : (s t u : G) → notes s t → notes t u → notes s u)
    {f : Shared F (MutBor G × (ℕ × Unit {0})) (Result (Unit {0}) StoreFault × (MutBor G × Unit {0}))} {visit : F} (v : ℕ)
    (A : ℕ → Relation → Relation → Type 0) → ((o : ℕ) → Moves (A o))
    → ((a : MutBor G) (o : ℕ) (r : Result (Unit {0}) StoreFault) (b : MutBor G) → f.post visit (a, (o, tt)) (r, (b, tt))
    → Adds rows limit notes (A o) a.now b.now r)
    → {s t : G} {r : Result (Unit {0}) StoreFault} → Visited rows (Visits f visit) v 0 s t r
    → Adds rows limit notes (Each v A) s t r
grown_calls still onward_notes v A moves grown walked =
    grown_each still onward_notes v A moves (λ s o r t seen. rw (seen.shows, seen.leaves) at (grown seen.shown o r seen.left seen.met)) walked
