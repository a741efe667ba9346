-- The declarations among a text's mentions.
use Rattle.std.proofs.Common.{◌≡◌, ℕ, List, [], ◌∷◌, ◌++◌, map, Some, None, Ok, Err, Result, sym, refl, ap, ◌∙◌, append_assoc, arith}
use Rattle.std.specs.List.{flat_map}
use Rattle.grammar.specs.declared.item.Place.{Place}
use Rattle.grammar.specs.declared.item.Call.{Call}
use Rattle.grammar.specs.declared.item.Value.{Value}
use Rattle.grammar.specs.declared.item.Item.{Item}
use Rattle.grammar.specs.declared.item.Item.TheVariants.{Assign, Store, Invoke}
use Rattle.grammar.specs.declared.state.Found.{Found}
use Rattle.grammar.specs.Grammar as grammar
use Rattle.grammar.specs.Units.{ItemAt}
use Rattle.grammar.specs.Parse.{Statement, with}
use Rattle.grammar.specs.Meanings.{callee_in, arguments_in, value_in, item_in, statement_in, statements_from}
use Rattle.grammar.proofs.Reading.{read_whole}
use Rattle.declarations.specs.declared.cursor.Declaration.{Declaration}
use Rattle.declarations.specs.Declarations.{Entry, Mention, declares, uses, calls, mentions, call_mentions, value_mentions, entry, kept, mentions_at, mentions_in}
use Rattle.declarations.specs.Meanings.{declarations_of, declarations_from, declaration_in, NextDeclaration, AllDeclarations}

no_uses : (ps : List grammar.Place) → flat_map kept (map uses ps) ≡ []
no_uses [] = refl
no_uses (p ∷ ps) = no_uses ps

call_none : (c : grammar.Callee) (ps : List grammar.Place) → flat_map kept (call_mentions (record { callee = c; arguments = ps })) ≡ []
call_none (grammar.direct f) ps = no_uses ps
call_none (grammar.through p) ps = no_uses ps

value_none : (v : grammar.Value) → flat_map kept (value_mentions v) ≡ []
value_none (grammar.address a) = refl
value_none (grammar.copy q) = refl
value_none (grammar.load q) = refl
value_none (grammar.returned c) = call_none c.callee c.arguments

-- an item that is no declaration
pub assign_none : (text : List ℕ) (i : Item) (p : Place) (v : Value) → i ≡ Assign p v → [] ≡ flat_map kept (mentions (item_in text i))
assign_none text i p v e = sym (ap (λ (j : Item). flat_map kept (mentions (item_in text j))) e ∙ value_none (value_in text v))

pub store_none : (text : List ℕ) (i : Item) (p q : Place) → i ≡ Store p q → [] ≡ flat_map kept (mentions (item_in text i))
store_none text i p q e = sym (ap (λ (j : Item). flat_map kept (mentions (item_in text j))) e)

pub invoke_none : (text : List ℕ) (i : Item) (c : Call) → i ≡ Invoke c → [] ≡ flat_map kept (mentions (item_in text i))
invoke_none text i c e = sym (ap (λ (j : Item). flat_map kept (mentions (item_in text j))) e ∙ call_none (callee_in text c.callee) (arguments_in text c.arguments))

kept_append : (ms ns : List Mention) → flat_map kept (ms ++ ns) ≡ flat_map kept ms ++ flat_map kept ns
kept_append [] ns = refl
kept_append (m ∷ ms) ns = ap (λ (ks : List Mention). kept m ++ ks) (kept_append ms ns) ∙ sym (append_assoc (kept m) _ _)

-- declarations before the others
abbrev before : List Mention → Result (List Mention) ℕ → Result (List Mention) ℕ
before ds (Ok rest) = Ok (ds ++ rest)
before ds (Err off) = Err off

before_none : (r : Result (List Mention) ℕ) → before [] r ≡ r
before_none (Ok rest) = refl
before_none (Err off) = refl

declarations_with : (s : Statement) (r : Result (List Statement) ℕ) → declarations_of (with s r) ≡ before (flat_map kept (mentions_at s)) (declarations_of r)
declarations_with s (Ok ss) = ap Ok (kept_append (mentions_at s) (flat_map mentions_at ss))
declarations_with s (Err off) = refl

-- an item was found at an offset, with these declarations
module _ (text : List ℕ) (from : ℕ) (f : Found) (ds : List Mention)
    (read : statements_from text from ≡ with (statement_in text f) (statements_from text f.end)) (has : ds ≡ flat_map kept (mentions (item_in text f.item))) where
  item_kept : declarations_from text from ≡ before ds (declarations_from text f.end)
  item_kept =
      ap declarations_of read ∙ declarations_with (statement_in text f) (statements_from text f.end)
      ∙ ap (λ (ks : List Mention). before ks (declarations_from text f.end)) (sym has)

  pub item_passed : ds ≡ [] → declarations_from text from ≡ declarations_from text f.end
  item_passed none = item_kept ∙ ap (λ (ks : List Mention). before ks (declarations_from text f.end)) none ∙ before_none _

  pub item_found : (at : ℕ) (d : Declaration) → declarations_from text at ≡ declarations_from text from → ds ≡ declaration_in text d ∷ [] → d.end ≡ f.end → NextDeclaration text at (Some d)
  item_found at d same here end all h =
      split (declarations_from text f.end) refl (sym (ap (λ (ks : List Mention). before ks (declarations_from text f.end)) here) ∙ sym item_kept ∙ sym same ∙ h)
    where
      split : (x : Result (List Mention) ℕ) → declarations_from text f.end ≡ x → before (declaration_in text d ∷ []) x ≡ Ok all
          → (rest : List Mention) × (all ≡ declaration_in text d ∷ rest) × (declarations_from text d.end ≡ Ok rest)
      split (Ok rest) q k = (rest, cc, ap (declarations_from text) end ∙ q)
      split (Err off) q k = let z : ◌≡◌ {A = ℕ} 0 1 = cc in absurd (omega arith)

-- no declaration is left at the end
pub none_left : (text : List ℕ) (at from : ℕ) → declarations_from text at ≡ declarations_from text from → ItemAt text from None → NextDeclaration text at None
none_left text at from same none ds h = go (statements_from text from) none (sym same ∙ h)
  where
    go : (r : Result (List Statement) ℕ) → ((ss : List Statement) → r ≡ Ok ss → ss ≡ []) → declarations_of r ≡ Ok ds → ds ≡ []
    go (Ok ss) none k = let at_end = ap (λ (xs : List Statement). flat_map kept (flat_map mentions_at xs)) (none ss refl) in cc
    go (Err off) none k = let z : ◌≡◌ {A = ℕ} 0 1 = cc in absurd (omega arith)

kept_entries : (ms : List Mention) → flat_map entry (flat_map kept ms) ≡ flat_map entry ms
kept_entries [] = refl
kept_entries (declares l n k ∷ ms) = ap (λ (es : List Entry). record { name = n.bytes; slots = k } ∷ es) (kept_entries ms)
kept_entries (uses p ∷ ms) = kept_entries ms
kept_entries (calls f k ∷ ms) = kept_entries ms

pub all_declarations : (text : List ℕ) → AllDeclarations text
unfolding mentions_in
all_declarations text = record { whole = λ e. ap declarations_of (read_whole text e).whole; entries = sym (kept_entries (mentions_in text)) }
