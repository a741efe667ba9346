-- What an engine means, and what each call replies and leaves.
use Rattle.std.specs.Prelude.{◌≡◌, ℕ, ◌<◌, Bool, true, false, cond, ◌&&◌, T, length, Ok, Err, Option, Result, nat_lt}
use Rattle.constraints.specs.Finite.{count}
use Rattle.constraints.specs.Constraint.{System, var_count, length_of, Valid}
use Rattle.constraints.specs.Least.{least}
use Rattle.constraints.specs.Fits.{Fits}
use Rattle.constraints.specs.Lists.{block_reply, after_block, word_reply, after_word}
use Rattle.constraints.specs.declared.list.calls.ListFault.{ListFault}
use Rattle.rows.specs.Stores.{next_of}
use Rattle.rows.specs.declared.StoreFault.TheVariants.{Full}
use Rattle.engine.specs.declared.fault.EngineFault.{EngineFault}
use Rattle.engine.specs.declared.fault.EngineFault.TheVariants.{Settled, Rejected, NoRoom, Gathering, Outside}
use Rattle.engine.specs.declared.fault.Overflow.{Overflow}

-- what is fixed of an engine: its room, which systems fit, and the position and depth that it names for one that does not
pub record Rule : Type 0 where
  pub room : ℕ
  pub fits : System → Bool
  pub position : System → ℕ
  pub depth : System → ℕ

pub record Meaning : Type 0 where
  pub system : System
  pub settled : Bool
  pub rule : Rule

-- a system of at most `room` pairs fits
abbrev pub Roomy : Rule → Type 0
Roomy rule = (sys : System) → Valid sys → Fits rule.room sys → rule.fits sys ≡ true

abbrev pub gathering : Meaning → System → Meaning
gathering m sys = record { system = sys; settled = false; rule = m.rule }

abbrev pub settling : Meaning → Meaning
settling m = record { system = m.system; settled = true; rule = m.rule }

-- the list's reply, as the engine's
abbrev pub listed : {A : Type 0} → Result A ListFault → Result A EngineFault
listed (Ok a) = Ok a
listed (Err f) = Err (Rejected f)

abbrev pub block_answer : Meaning → ℕ → Result ℕ EngineFault
block_answer m n = cond m.settled (Err Settled) (listed (block_reply m.system n))

abbrev pub block_added : Meaning → ℕ → Meaning
block_added m n = cond m.settled m (gathering m (after_block m.system n))

abbrev pub add_answer : Meaning → ℕ → Result (Unit {0}) EngineFault
add_answer m w = cond m.settled (Err Settled) (listed (word_reply m.system w))

abbrev pub word_added : Meaning → ℕ → Meaning
word_added m w = cond m.settled m (gathering m (after_word m.system w))

-- a room fault: the position and the depth that the rule names, and a store's fault with a pair of the smallest solution
pub record Overflows (rule : Rule) (sys : System) (o : Overflow) : Type 0 where
  pub position : o.position ≡ rule.position sys
  pub within : o.position < length sys.words
  pub depth : o.depth ≡ rule.depth sys
  pub pair : (v x : ℕ) × (o.store ≡ Full v x) × T (least sys v x)

-- settle: refused while settled; else it settles exactly if the system fits
abbrev pub Settles : Meaning → Meaning → Result (Unit {0}) EngineFault → Type 0
Settles m n (Ok _) = (m.settled ≡ false) × (m.rule.fits m.system ≡ true) × (n ≡ settling m)
Settles m n (Err Settled) = (m.settled ≡ true) × (n ≡ m)
Settles m n (Err (NoRoom o)) =
    (m.settled ≡ false) × (m.rule.fits m.system ≡ false) × Overflows m.rule m.system o × (n ≡ m)
Settles m n (Err (Rejected f)) = ⊥
Settles m n (Err Gathering) = ⊥
Settles m n (Err Outside) = ⊥

-- an answer about a variable, once settled
abbrev pub answer : {A : Type 0} → Meaning → Bool → A → Result A EngineFault
answer m inside x = cond m.settled (cond inside (Ok x) (Err Outside)) (Err Gathering)

abbrev pub holds_answer : Meaning → ℕ → ℕ → Result Bool EngineFault
holds_answer m v o =
    answer m (nat_lt v (var_count m.system) && nat_lt 0 (length_of m.system.blocks o)) (least m.system v o)

abbrev pub next_answer : Meaning → ℕ → ℕ → Result (Option ℕ) EngineFault
next_answer m v from = answer m (nat_lt v (var_count m.system)) (next_of (least m.system v) from)

abbrev pub size_answer : Meaning → ℕ → Result ℕ EngineFault
size_answer m v = answer m (nat_lt v (var_count m.system)) (count 256 (least m.system v))
