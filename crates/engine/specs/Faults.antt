-- The refusals of an engine.
use Rattle.std.specs.Prelude.{ℕ, List, [], ◌∷◌}
use Rattle.constraints.specs.Lists.{refusal_number}
use Rattle.rows.specs.Stores.{refusal as store_refusal}
use Rattle.rows.specs.declared.StoreFault.{StoreFault}
use Rattle.rows.specs.declared.StoreFault.TheVariants.{Outside as OutsideStore, Full}
use Rattle.engine.specs.declared.fault.EngineFault.{EngineFault}
use Rattle.engine.specs.declared.fault.EngineFault.TheVariants.{Settled, Rejected, NoRoom, Gathering, Outside}

-- the number of a refusal, and the values that it carries: position, depth, and those of the store's fault
abbrev pub refusal : EngineFault → ℕ × List ℕ
refusal Settled = (1, [])
refusal (Rejected f) = (refusal_number f, [])
refusal (NoRoom o) = (6, o.position ∷ o.depth ∷ (store_refusal o.store).1)
refusal Gathering = (7, [])
refusal Outside = (8, [])

-- the fault of a store that stopped at a word
abbrev pub stopped_at : ℕ → StoreFault → EngineFault
stopped_at position f = NoRoom (record { position = position; depth = 0; store = f })

abbrev pub from_store : StoreFault → EngineFault
from_store OutsideStore = Outside
from_store (Full v o) = stopped_at 0 (Full v o)
