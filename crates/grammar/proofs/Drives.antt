-- A unit's lexemes lead the automaton from the start back to it, and it emits the unit's items. Assumes nothing.
use Rattle.std.proofs.Common.{◌≡◌, ◌+◌, ◌≤◌, Bool, true, false, cond, ltb, List, [], ◌∷◌, ◌++◌, length, Some, None, Option, sym, refl, ap, ◌∙◌, append_assoc, arith, length-append}
use Rattle.std.proofs.lemmas.Bool.{lt-ltb}
use Rattle.lexemes.specs.declared.lexeme.Sign.TheVariants.{Equals, Star, Open, Close, Comma, Semicolon, Stop}
use Rattle.grammar.specs.declared.item.Linkage.TheVariants.{Defined, External}
use Rattle.grammar.specs.declared.item.Slot.{Slot}
use Rattle.grammar.specs.declared.item.Slot.TheVariants.{Bare, Result as Returned, Parameter}
use Rattle.lexemes.specs.Terminals.{Name, Terminal, sign}
use Rattle.grammar.specs.Grammar.{Place, Callee, direct, through, Value, address, copy, load, returned, Item, variable, function, assign, store, invoke, slot, place, others, arguments, callee, value, item, unit, FewIn, Few, Legal}
use Rattle.grammar.specs.Automaton.{Role, target, stored, source, copied, loaded, pointer, argument, State, start, ended, placed, named, slotted, valued, opened, called, Step, more, done, fault, is_sign, call_item, follow_arguments, step}
use Rattle.grammar.proofs.Prefixes.{Terminals, pushed_is}

-- a run: where it ends, what an item adds, and where there is no step
module _ {R : Type 0} (finish : State → R) (emit : Item → R → R) (fail : R) where
  abbrev pub onward : Step → (State → R) → R
  onward (more s) go = go s
  onward (done i) go = emit i (go start)
  onward fault go = fail

  abbrev pub goes : State → Terminals → R
  goes s [] = finish s
  goes s (l ∷ ls) = onward (step s l) (λ t. goes t ls)

  -- a slot, before a lexeme that cannot belong to the place
  through_slot : (r : Role) (n : Name) (x : Slot) (l : Terminal) (rest : Terminals) → is_sign Stop l ≡ false → is_sign Open l ≡ false →
      goes (named r n) (slot x (l ∷ rest)) ≡ goes (slotted r (record { base = n; slot = x })) (l ∷ rest)
  through_slot r n Bare l rest e f = simp (e, f)
  through_slot r n (Returned at) l rest e f = refl
  through_slot r n (Parameter k) l rest e f = refl

  before_others : (r : Role) (p : Place) (qs : List Place) (rest : Terminals) →
      goes (named r p.base) (slot p.slot (others qs (sign Close ∷ rest))) ≡ goes (slotted r p) (others qs (sign Close ∷ rest))
  before_others r p [] rest = through_slot r p.base p.slot (sign Close) rest refl refl
  before_others r p (q ∷ qs) rest = through_slot r p.base p.slot (sign Comma) _ refl refl

  through_others : (t : Option Place) (c : Callee) (ps : List Place) (p : Place) (qs : List Place) (rest : Terminals) → length ps + length qs ≤ 5 →
      goes (slotted (argument t c ps) p) (others qs (sign Close ∷ rest)) ≡ goes (ended (call_item t c (ps ++ p ∷ qs))) rest
  through_others t c ps p [] rest h =
      ap (λ (o : Option (List Place)). onward (follow_arguments t c o (sign Close)) (λ s. goes s rest)) (pushed_is ps p (omega arith))
  through_others t c ps p (q ∷ qs) rest h =
      let more_to_come : Terminals = place q (others qs (sign Close ∷ rest)) in
      let room : ltb (length (ps ++ p ∷ [])) 6 ≡ true = lt-ltb _ _ (simp length-append (omega arith)) in
      let fits : length (ps ++ p ∷ []) + length qs ≤ 5 = simp length-append (omega arith) in
      ap (λ (o : Option (List Place)). onward (follow_arguments t c o (sign Comma)) (λ s. goes s more_to_come)) (pushed_is ps p (omega arith))
      ∙ ap (λ (b : Bool). onward (cond b (more (placed (argument t c (ps ++ p ∷ [])))) fault) (λ s. goes s more_to_come)) room
      ∙ before_others (argument t c (ps ++ p ∷ [])) q qs rest ∙ through_others t c (ps ++ p ∷ []) q qs rest fits
      ∙ ap (λ (all : List Place). goes (ended (call_item t c all)) rest) (append_assoc ps (p ∷ []) (q ∷ qs))

  through_arguments : (t : Option Place) (c : Callee) (ps : List Place) (rest : Terminals) → length ps ≤ 6 →
      goes (called t c) (arguments ps (sign Close ∷ rest)) ≡ goes (ended (call_item t c ps)) rest
  through_arguments t c [] rest h = refl
  through_arguments t c (p ∷ ps) rest h = before_others (argument t c []) p ps rest ∙ through_others t c [] p ps rest (omega arith)

  through_call : (t : Option Place) (p : Place) (ps : List Place) (rest : Terminals) → length ps ≤ 6 →
      goes (opened t) (sign Star ∷ place p (sign Close ∷ sign Open ∷ arguments ps (sign Close ∷ rest))) ≡ goes (ended (call_item t (through p) ps)) rest
  through_call t p ps rest h = through_slot (pointer t) p.base p.slot (sign Close) _ refl refl ∙ through_arguments t (through p) ps rest h

  value_call : (p : Place) (c : Callee) (ps : List Place) (rest : Terminals) → length ps ≤ 6 →
      goes (valued p) (callee c (sign Open ∷ arguments ps (sign Close ∷ sign Semicolon ∷ rest))) ≡ emit (call_item (Some p) c ps) (goes start rest)
  value_call p (direct n) ps rest h = through_arguments (Some p) (direct n) ps (sign Semicolon ∷ rest) h
  value_call p (through q) ps rest h = through_call (Some p) q ps (sign Semicolon ∷ rest) h

  item_call : (c : Callee) (ps : List Place) (rest : Terminals) → length ps ≤ 6 →
      goes start (callee c (sign Open ∷ arguments ps (sign Close ∷ sign Semicolon ∷ rest))) ≡ emit (call_item None c ps) (goes start rest)
  item_call (direct n) ps rest h = through_arguments None (direct n) ps (sign Semicolon ∷ rest) h
  item_call (through q) ps rest h = through_call None q ps (sign Semicolon ∷ rest) h

  -- an item's lexemes lead from the start back to it
  through_value : (p : Place) (v : Value) (rest : Terminals) → FewIn v → goes (valued p) (value v (sign Semicolon ∷ rest)) ≡ emit (assign p v) (goes start rest)
  through_value p (address n) rest h = refl
  through_value p (copy q) rest h = through_slot (copied p) q.base q.slot (sign Semicolon) rest refl refl
  through_value p (load q) rest h = through_slot (loaded p) q.base q.slot (sign Semicolon) rest refl refl
  through_value p (returned c) rest h = value_call p c.callee c.arguments rest h

  pub through_item : (i : Item) (rest : Terminals) → Few i → goes start (item i rest) ≡ emit i (goes start rest)
  through_item (variable External n) rest h = refl
  through_item (variable Defined n) rest h = refl
  through_item (function External n k) rest h = refl
  through_item (function Defined n k) rest h = refl
  through_item (assign p v) rest h = through_slot target p.base p.slot (sign Equals) _ refl refl ∙ through_value p v rest h
  through_item (store p q) rest h =
      through_slot stored p.base p.slot (sign Equals) _ refl refl ∙ through_slot (source p) q.base q.slot (sign Semicolon) rest refl refl
  through_item (invoke c) rest h = item_call c.callee c.arguments rest h

-- the items that are read back
abbrev onto : Item → Option (List Item) → Option (List Item)
onto i (Some u) = Some (i ∷ u)
onto i None = None

abbrev whole : State → Option (List Item)
whole s = Some []

read_back : (u : List Item) → Legal u → goes whole onto None start (unit u []) ≡ Some u
read_back [] h = refl
read_back (i ∷ u) h = through_item whole onto None i (unit u []) h.0 ∙ ap (onto i) (read_back u h.1)

-- no two units have the same lexemes
pub unambiguous : (u v : List Item) → Legal u → Legal v → unit u [] ≡ unit v [] → u ≡ v
unambiguous u v h k e =
    let same : Some u ≡ Some v = sym (read_back u h) ∙ ap (goes whole onto None start) e ∙ read_back v k in cc
