-- A question's place is the grammar's.
use Rattle.std.proofs.Common.{◌≡◌, ℕ, Bool, true, false, cond, List, [], ◌∷◌, Some, None, codes, refl, ap, ◌∙◌, subst, arith}
use Rattle.std.specs.Str.{bytes_eq}
use Rattle.std.proofs.lemmas.Slice.Eq.{bytes_eq-Decides}
use Rattle.std.proofs.lemmas.Bool.{cond-false}
use Rattle.std.specs.List.{list_any}
use Rattle.lexemes.specs.Classes as lexemes
use Rattle.lexemes.specs.Classes.{class_of}
use Rattle.lexemes.specs.declared.lexeme.Sign.{Sign}
use Rattle.lexemes.specs.declared.lexeme.Sign.TheVariants.{Equals, Ampersand, Star, Open, Close, Comma, Semicolon, Stop}
use Rattle.lexemes.specs.Terminals.{Name, Terminal, sign, word, name, number, Piece, lexeme, stray}
use Rattle.lexemes.specs.Lexemes.{pieces_from}
use Rattle.grammar.specs.declared.item.Slot.{Slot}
use Rattle.grammar.specs.declared.item.Slot.TheVariants.{Bare, Result, Parameter}
use Rattle.grammar.specs.Grammar.{Place, slot, place}
use Rattle.grammar.specs.Faults.{Spells, none, one}
use Rattle.questions.specs.Questions.{is_blank, has_blank, slot_lexeme, last_slot, with_slot, after_name, place_from, Grammatical}

blank_class : (b : ℕ) → lexemes.is_blank b ≡ is_blank (class_of b)
blank_class b = grind arith

pub any_blank : (text : List ℕ) → list_any lexemes.is_blank text ≡ has_blank text
any_blank [] = refl
any_blank (b ∷ bs) = cc (blank_class b, any_blank bs)

no_place : {X : Type 0} {p : Place} → None ≡ Some p → X
no_place e = let z : ◌≡◌ {A = ℕ} 0 1 = cc in absurd (omega arith)

is_place : (p q : Place) → Some p ≡ Some q → p ≡ q
is_place p q e = cc

-- what follows a name, and a full stop, is what the grammar writes
slot_written : (at : ℕ) (l : Terminal) (n : Name) (p : Place) → with_slot n (slot_lexeme l) ≡ Some p
    → Spells (lexeme at l ∷ []) (l ∷ []) × (name n ∷ sign Stop ∷ l ∷ [] ≡ place p [])
slot_written at (sign s) n p e = no_place e
slot_written at (word w) n p e = no_place e
slot_written at (number k) n p e = (one none, ap (λ (q : Place). place q []) (is_place _ p e))
slot_written at (name m) n p e = go (bytes_eq m.bytes (codes "r")) refl e
  where
    go : (b : Bool) → bytes_eq m.bytes (codes "r") ≡ b → with_slot n (cond b (Some (Result m.at)) None) ≡ Some p
        → Spells (lexeme at (name m) ∷ []) (name m ∷ []) × (name n ∷ sign Stop ∷ name m ∷ [] ≡ place p [])
    go false t h = no_place h
    go true t h = (
      one none,
      ap (λ (bs : List ℕ). name n ∷ sign Stop ∷ name (record { at = m.at; bytes = bs }) ∷ []) ((bytes_eq-Decides _ _).0 t) ∙ ap (λ (q : Place). place q []) (is_place _ p h),
    )

stop_written : (at dot : ℕ) (n : Name) (ps : List Piece) (p : Place) → with_slot n (last_slot ps) ≡ Some p
    → Spells (lexeme at (name n) ∷ lexeme dot (sign Stop) ∷ ps) (place p [])
stop_written at dot n [] p e = no_place e
stop_written at dot n (stray s ∷ ps) p e = no_place e
stop_written at dot n (lexeme s l ∷ (q ∷ ps)) p e = no_place e
stop_written at dot n (lexeme s l ∷ []) p e = let (spells, is) = slot_written s l n p e in subst (Spells _) is (one (one spells))

sign_written : (at dot : ℕ) (n : Name) (s : Sign) (ps : List Piece) (p : Place) → after_name n (lexeme dot (sign s) ∷ ps) ≡ Some p
    → Spells (lexeme at (name n) ∷ lexeme dot (sign s) ∷ ps) (place p [])
sign_written at dot n Stop ps p e = stop_written at dot n ps p e
sign_written at dot n Equals ps p e = no_place e
sign_written at dot n Ampersand ps p e = no_place e
sign_written at dot n Star ps p e = no_place e
sign_written at dot n Open ps p e = no_place e
sign_written at dot n Close ps p e = no_place e
sign_written at dot n Comma ps p e = no_place e
sign_written at dot n Semicolon ps p e = no_place e

name_written : (at : ℕ) (n : Name) (ps : List Piece) (p : Place) → after_name n ps ≡ Some p → Spells (lexeme at (name n) ∷ ps) (place p [])
name_written at n [] p e = subst (λ (q : Place). Spells (lexeme at (name n) ∷ []) (place q [])) (is_place _ p e) (one none)
name_written at n (stray s ∷ ps) p e = no_place e
name_written at n (lexeme dot (sign s) ∷ ps) p e = sign_written at dot n s ps p e
name_written at n (lexeme dot (word w) ∷ ps) p e = no_place e
name_written at n (lexeme dot (name m) ∷ ps) p e = no_place e
name_written at n (lexeme dot (number k) ∷ ps) p e = no_place e

place_written : (ps : List Piece) (p : Place) → place_from ps ≡ Some p → Spells ps (place p [])
place_written [] p e = no_place e
place_written (stray at ∷ ps) p e = no_place e
place_written (lexeme at (sign s) ∷ ps) p e = no_place e
place_written (lexeme at (word w) ∷ ps) p e = no_place e
place_written (lexeme at (number k) ∷ ps) p e = no_place e
place_written (lexeme at (name n) ∷ ps) p e = name_written at n ps p e

place_read : (ps : List Piece) (n : Name) (s : Slot) → Spells ps (name n ∷ slot s []) → place_from ps ≡ Some (record { base = n; slot = s })
place_read ps n Bare (one none) = refl
place_read ps n (Result at) (one (one (one none))) = refl
place_read ps n (Parameter k) (one (one (one none))) = refl

pub grammatical : (text : List ℕ) → Grammatical text
grammatical text =
    record {
      written = λ p e. unblanked (has_blank text) p e;
      read = λ p clear spells. cond-false _ _ _ clear ∙ place_read _ p.base p.slot spells;
    }
  where
    unblanked : (b : Bool) (p : Place) → cond b None (place_from (pieces_from text 0)) ≡ Some p → Spells (pieces_from text 0) (place p [])
    unblanked true p e = no_place e
    unblanked false p e = place_written _ p e
