-- What a merging layer means over the engine below.
use Rattle.std.specs.Prelude.{ℕ, ◌+◌, min, Bool, slice_index}
use Rattle.std.proofs.Common.{arith}
use Rattle.constraints.specs.Constraint.{System}
use Rattle.constraints.specs.Merge.{representative}
use Rattle.constraints.specs.Reduced.{reduced, own_position}
use Rattle.constraints.specs.Theorems.{LayerIsRight}
use Rattle.engine.specs.Meanings.{Rule, Meaning, Roomy}
use Rattle.engine.specs.declared.fault.EngineFault.{EngineFault}
use Rattle.engine.specs.declared.fault.EngineFault.TheVariants.{Settled, Rejected, NoRoom, Gathering, Outside}

-- which variables of a system are of one class
abbrev pub Classing : Type 0
Classing = System → ℕ → ℕ → Bool

abbrev pub rep_by : Classing → System → ℕ → ℕ
rep_by same sys = representative sys (same sys)

-- what is handed down
abbrev pub handed : Classing → System → System
handed same sys = reduced (rep_by same sys) sys

-- the earliest own word whose reduced form stands at j in the reduced list
abbrev pub own_place : Classing → System → ℕ → ℕ
own_place same sys j = own_position (rep_by same sys) sys.words (slice_index (handed same sys).words j)

-- depth rises by one, but 255 stays
abbrev pub deeper : ℕ → ℕ
deeper d = min (d + 1) 255

-- a system fits the layer if the reduced one fits below
abbrev pub layer_rule : Classing → Rule → Rule
layer_rule same rule =
    record {
      room = rule.room;
      fits = λ sys. rule.fits (handed same sys);
      position = λ sys. own_place same sys (rule.position (handed same sys));
      depth = λ sys. deeper (rule.depth (handed same sys));
    }

abbrev pub layered : Classing → Meaning → System → Bool → Meaning
layered same below sys settled = record { system = sys; settled = settled; rule = layer_rule same below.rule }

-- a fault from below, as the layer tells it
abbrev pub raised : Classing → System → EngineFault → EngineFault
raised same sys (NoRoom o) = NoRoom (record { position = own_place same sys o.position; depth = deeper o.depth; store = o.store })
raised same sys Settled = Settled
raised same sys (Rejected f) = Rejected f
raised same sys Gathering = Gathering
raised same sys Outside = Outside

-- what has at most `room` pairs fits, since the reduced system has no more
pub layer_roomy : (same : Classing) (rule : Rule) → LayerIsRight same → Roomy rule → Roomy (layer_rule same rule)
layer_roomy same rule right roomy sys valid fits =
    let kept = right sys valid in
    roomy (handed same sys) kept.still_valid (omega (arith, kept.fewer, fits))
