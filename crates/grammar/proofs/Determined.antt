-- A text is at most one unit's, and has at most one fault. Assumes nothing.
use Rattle.std.proofs.Common.{◌≡◌, ℕ, List, [], ◌∷◌, ◌++◌, refl, ap, subst, append_assoc}
use Rattle.lexemes.specs.Terminals.{Terminal, Piece}
use Rattle.grammar.specs.Grammar.{Admitted, Begins}
use Rattle.grammar.specs.Faults.{Spells, none, one, Fault, missing, strange, wrong, later, Determined}
use Rattle.grammar.proofs.Drives.{unambiguous}

spells_one : {ps : List Piece} {ls ms : List Terminal} → Spells ps ls → Spells ps ms → ls ≡ ms
spells_one none none = refl
spells_one (one {l = l} a) (one b) = ap (λ (t : List Terminal). l ∷ t) (spells_one a b)

begins_less : (ls ms : List Terminal) → Begins (ls ++ ms) → Begins ls
begins_less ls ms b = (ms ++ b.0, subst Admitted (append_assoc ls ms b.0) b.1)

fault_begins : (size : ℕ) {ls : List Terminal} {ps : List Piece} {off : ℕ} → Fault size ls ps off → Begins ls
fault_begins size (missing b no_unit) = b
fault_begins size (strange b) = b
fault_begins size (wrong b no_more) = b
fault_begins size (later {ls = ls} {l = l} f) = begins_less ls (l ∷ []) (fault_begins size f)

fault_one : (size : ℕ) {ls : List Terminal} {ps : List Piece} {a b : ℕ} → Fault size ls ps a → Fault size ls ps b → a ≡ b
fault_one size (missing x no_unit) (missing y no_unit') = refl
fault_one size (strange x) (strange y) = refl
fault_one size (wrong x no_more) (wrong y no_more') = refl
fault_one size (wrong x no_more) (later g) = absurd (no_more (fault_begins size g))
fault_one size (later f) (wrong y no_more) = absurd (no_more (fault_begins size f))
fault_one size (later f) (later g) = fault_one size f g

pub determined : Determined
determined = record { unit_of = λ ps u v a b. unambiguous u v a.0 b.0 (spells_one a.1 b.1); fault_of = λ size ps a b f g. fault_one size f g }
