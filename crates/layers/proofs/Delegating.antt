-- A layer answers as the engine below does of representatives, and tells its faults.
use Rattle.std.proofs.Common.{◌≡◌, ℕ, ◌<◌, Bool, true, false, cond, T, ltb, length, Result, Ok, Err, refl, sym, ap, ◌∙◌, subst, arith}
use Rattle.std.proofs.lemmas.Bool.{lt-ltb, ltb-true, false≢true}
use Rattle.constraints.specs.Constraint.{System, Valid, var_count}
use Rattle.constraints.specs.Least.{least}
use Rattle.constraints.specs.Theorems.{LayerIsRight}
use Rattle.constraints.proofs.Valid.{own_position_is}
use Rattle.engine.specs.Meanings.{Meaning, gathering, Settles, answer, holds_answer, next_answer, size_answer}
use Rattle.engine.specs.declared.fault.EngineFault.{EngineFault}
use Rattle.engine.specs.declared.fault.EngineFault.TheVariants.{Settled, Rejected, NoRoom, Gathering, Outside}
use Rattle.engine.specs.declared.fault.Overflow.{Overflow}
use Rattle.layers.specs.Layered.{Classing, rep_by, handed, own_place, deeper, layered, raised}
use Rattle.layers.specs.Plans.{Handed, LayerSound}
use Rattle.layers.specs.declared.plan.Plan.{Plan}
use Rattle.constraints.specs.Lists.{system_of}
use Rattle.constraints.proofs.Sound.{list_valid}

-- an engine that takes blocks and words is gathering
pub gathers : (settled : Bool) → ◌≡◌ {A = Result (Unit {0}) EngineFault} (cond settled (Err Settled) (Ok tt)) (Ok tt) → settled ≡ false
gathers true e = cc
gathers false e = refl

answered : (settled inside : Bool) (r x : ℕ) → Ok r ≡ cond settled (cond inside (Ok x) (Err Outside)) (Err Gathering)
    → (settled ≡ true) × (inside ≡ true) × (r ≡ x)
answered true true r x e = (refl, refl, cc)
answered true false r x e = (refl, cc, cc)
answered false inside r x e = (cc, cc, cc)

-- a question that is admitted is one about the representative r
module _ (same : Classing) (right : LayerIsRight same) (below : Meaning) (p : Plan) (v r : ℕ) (settled : Bool)
    (sound : LayerSound settled below same p)
    (admitted : Ok r ≡ answer (layered same below (system_of p.own) settled) (ltb v (var_count (system_of p.own))) (rep_by same (system_of p.own) v)) where
  abbrev own : System
  own = system_of p.own

  parts : (settled ≡ true) × (ltb v (var_count own) ≡ true) × (r ≡ rep_by same own v)
  parts = answered settled (ltb v (var_count own)) r (rep_by same own v) admitted

  h : Handed below same p
  h = sound parts.0

  inside : v < var_count own
  inside = ltb-true v (var_count own) parts.1

  row_kept : least (handed same own) r ≡ least own v
  row_kept = ap (least (handed same own)) parts.2 ∙ (right own (list_valid p.own)).rows v

  rep_in : ltb r (var_count own) ≡ true
  rep_in = lt-ltb r (var_count own) (omega (arith, h.ready.within v inside, h.ready.told v inside, parts.2))

  pub layer_holds : (o : ℕ) → holds_answer below r o ≡ holds_answer (layered same below own settled) v o
  layer_holds o = rw (parts.0, h.answers, h.holds, rep_in, parts.1, row_kept)

  pub layer_next : (from : ℕ) → next_answer below r from ≡ next_answer (layered same below own settled) v from
  layer_next from = rw (parts.0, h.answers, h.holds, rep_in, parts.1, row_kept)

  pub layer_size : size_answer below r ≡ size_answer (layered same below own settled) v
  layer_size = rw (parts.0, h.answers, h.holds, rep_in, parts.1, row_kept)

-- a refusal from below, told by the layer
pub layer_refused : (same : Classing) → LayerIsRight same → (m m' n : Meaning) (sys : System) (s : Bool) (f : EngineFault) → Valid sys
    → s ≡ false → m' ≡ gathering m (handed same sys) → Settles m' n (Err f)
    → Settles (layered same m sys s) (layered same n sys s) (Err (raised same sys f))
layer_refused same right m m' n sys s Settled valid still eq h = absurd (false≢true (sym (ap (λ x. x.settled) eq) ∙ h.0))
layer_refused same right m m' n sys s (Rejected f) valid still eq h = h
layer_refused same right m m' n sys s Gathering valid still eq h = h
layer_refused same right m m' n sys s Outside valid still eq h = h
layer_refused same right m m' n sys s (NoRoom o) valid still eq h =
    let inside : o.position < length (handed same sys).words = subst (λ x. o.position < length x.system.words) eq h.2.within in (
      still,
      sym (ap (λ x. x.rule.fits x.system) eq) ∙ h.1,
      record {
        position = ap (own_place same sys) (h.2.position ∙ ap (λ x. x.rule.position x.system) eq);
        within = (own_position_is (rep_by same sys) sys o.position inside).0;
        depth = ap deeper (h.2.depth ∙ ap (λ x. x.rule.depth x.system) eq);
        pair =
            let (v, x, is, held) = h.2.pair in
            (v, x, is, (right sys valid).contained v x (subst (λ m. T (least m.system v x)) eq held));
      },
      ap (λ x. layered same x sys s) (h.3 ∙ eq),
    )
