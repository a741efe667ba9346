-- What items and states mean, over the text that they were read from. Assumes nothing.
use Rattle.std.specs.Prelude.{◌≡◌, ℕ, ◌<◌, ◌≤◌, List, [], map, length, Some, None, Ok, Err, Option, Result}
use Rattle.grammar.specs.declared.item.Place.{Place}
use Rattle.grammar.specs.declared.item.Callee.{Callee}
use Rattle.grammar.specs.declared.item.Callee.TheVariants.{Direct, Through}
use Rattle.grammar.specs.declared.item.Arguments.{Arguments}
use Rattle.grammar.specs.declared.item.Call.{Call}
use Rattle.grammar.specs.declared.item.Value.{Value}
use Rattle.grammar.specs.declared.item.Value.TheVariants.{Address, Copy, Load, Returned}
use Rattle.grammar.specs.declared.item.Item.{Item}
use Rattle.grammar.specs.declared.item.Item.TheVariants.{Variable, Function, Assign, Store, Invoke}
use Rattle.grammar.specs.declared.state.Role.{Role}
use Rattle.grammar.specs.declared.state.Role.TheVariants.{Target, Stored, Source, Copied, Loaded, Pointer, Argument}
use Rattle.grammar.specs.declared.state.State.{State}
use Rattle.grammar.specs.declared.state.State.TheVariants.{Start, External, Variable as VariableOf, Function as FunctionOf, Counted, Ended, Placed, Named, Dotted, Slotted, Valued, Addressed, Opened, Closed, Called}
use Rattle.grammar.specs.declared.state.Step.{Step}
use Rattle.grammar.specs.declared.state.Step.TheVariants.{More, Done}
use Rattle.grammar.specs.Given.{given}
use Rattle.grammar.specs.Grammar as grammar
use Rattle.grammar.specs.Automaton as automaton
use Rattle.grammar.specs.declared.state.Found.{Found}
use Rattle.grammar.specs.Faults.{Writes, Fault as FaultAt}
use Rattle.lexemes.specs.Lexemes.{pieces_from}
use Rattle.grammar.specs.Parse.{Statement, parse, with, items}
use Rattle.lexemes.specs.Texts.{name_in_text, first_at}
use Rattle.lexemes.specs.declared.location.Location.{Location}
use Rattle.lexemes.specs.Lines.{located}

-- whether reading comes to the end, or to a fault
abbrev pub ending : {X : Type 0} → Result X ℕ → Result (Prim.Unit {0}) ℕ
ending (Ok ss) = Ok tt
ending (Err off) = Err off

module _ (text : List ℕ) where
  abbrev pub place_in : Place → grammar.Place
  place_in p = record { base = name_in_text text p.base; slot = p.slot }

  abbrev pub callee_in : Callee → grammar.Callee
  callee_in (Direct n) = grammar.direct (name_in_text text n)
  callee_in (Through p) = grammar.through (place_in p)

  abbrev pub arguments_in : Arguments → List grammar.Place
  arguments_in a = map place_in (given a)

  abbrev pub call_in : Call → grammar.Call
  call_in c = record { callee = callee_in c.callee; arguments = arguments_in c.arguments }

  abbrev pub value_in : Value → grammar.Value
  value_in (Address n) = grammar.address (name_in_text text n)
  value_in (Copy p) = grammar.copy (place_in p)
  value_in (Load p) = grammar.load (place_in p)
  value_in (Returned c) = grammar.returned (call_in c)

  abbrev pub item_in : Item → grammar.Item
  item_in (Variable e n) = grammar.variable e (name_in_text text n)
  item_in (Function e n k) = grammar.function e (name_in_text text n) k
  item_in (Assign p v) = grammar.assign (place_in p) (value_in v)
  item_in (Store p q) = grammar.store (place_in p) (place_in q)
  item_in (Invoke c) = grammar.invoke (call_in c)

  abbrev pub target_in : Option Place → Option grammar.Place
  target_in None = None
  target_in (Some p) = Some (place_in p)

  abbrev pub role_in : Role → automaton.Role
  role_in Target = automaton.target
  role_in Stored = automaton.stored
  role_in (Source p) = automaton.source (place_in p)
  role_in (Copied p) = automaton.copied (place_in p)
  role_in (Loaded p) = automaton.loaded (place_in p)
  role_in (Pointer t) = automaton.pointer (target_in t)
  role_in (Argument t c a) = automaton.argument (target_in t) (callee_in c) (arguments_in a)

  abbrev pub state_in : State → automaton.State
  state_in Start = automaton.start
  state_in External = automaton.external
  state_in (VariableOf e) = automaton.variable_of e
  state_in (FunctionOf e) = automaton.function_of e
  state_in (Counted e n) = automaton.counted e (name_in_text text n)
  state_in (Ended i) = automaton.ended (item_in i)
  state_in (Placed r) = automaton.placed (role_in r)
  state_in (Named r n) = automaton.named (role_in r) (name_in_text text n)
  state_in (Dotted r n) = automaton.dotted (role_in r) (name_in_text text n)
  state_in (Slotted r p) = automaton.slotted (role_in r) (place_in p)
  state_in (Valued p) = automaton.valued (place_in p)
  state_in (Addressed p) = automaton.addressed (place_in p)
  state_in (Opened t) = automaton.opened (target_in t)
  state_in (Closed t p) = automaton.closed (target_in t) (place_in p)
  state_in (Called t c) = automaton.called (target_in t) (callee_in c)

  abbrev pub step_in : Option Step → automaton.Step
  step_in (Some (More s)) = automaton.more (state_in s)
  step_in (Some (Done i)) = automaton.done (item_in i)
  step_in None = automaton.fault

  -- the statements of the text from an offset on, or the offset of its fault
  abbrev pub statements_from : ℕ → Result (List Statement) ℕ
  statements_from at = parse (length text) (first_at (pieces_from text at)) automaton.start (pieces_from text at)

  abbrev pub items_from : ℕ → Result (List grammar.Item) ℕ
  items_from at = items (statements_from at)

  abbrev pub statement_in : Found → Statement
  statement_in f = record { at = f.at; item = item_in f.item }

  -- the statements that begin with one that was found
  abbrev pub statements_of : Result (Option Found) ℕ → Result (List Statement) ℕ
  statements_of (Ok None) = Ok []
  statements_of (Ok (Some f)) = with (statement_in f) (statements_from f.end)
  statements_of (Err off) = Err off

  -- an item ends past an offset, and within the text
  abbrev pub Further : ℕ → Result (Option Found) ℕ → Type 0
  Further at (Ok None) = Unit {0}
  Further at (Ok (Some f)) = (at < f.end) × (f.end ≤ length text)
  Further at (Err off) = Unit {0}

  -- the text is a unit's, or this is where it leaves the grammar
  abbrev pub Checked : Result (Prim.Unit {0}) Location → Type 0
  Checked (Ok done) = (u : List grammar.Item) × Writes u (pieces_from text 0)
  Checked (Err l) =
      FaultAt (length text) [] (pieces_from text 0) l.offset × (l ≡ located text l.offset) × ((u : List grammar.Item) → Writes u (pieces_from text 0) → ⊥)

  -- the same, by the statements that are read
  abbrev pub verdict : {X : Type 0} → Result X ℕ → Result (Prim.Unit {0}) Location
  verdict (Ok ss) = Ok tt
  verdict (Err off) = Err (located text off)
