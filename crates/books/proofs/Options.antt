-- What an optional value is, from an equation.
use Rattle.std.proofs.Common.{◌≡◌, Bool, true, false, cond, is_some, Some, None, Option, refl, ap}
use Rattle.std.proofs.lemmas.Bool.{false≢true, true≢false}

pub none_some : {X : Type 0} {x : X} → ◌≡◌ {A = Option X} None (Some x) → ⊥
none_some e = false≢true (ap is_some e)

pub some_none : {X : Type 0} {x : X} → ◌≡◌ {A = Option X} (Some x) None → ⊥
some_none e = true≢false (ap is_some e)

pub some_same : {X : Type 0} {x y : X} → Some x ≡ Some y → x ≡ y
some_same e = cc

-- a test that lets a value pass
pub let_pass : {X : Type 0} (b : Bool) (x y : X) → cond b (Some x) None ≡ Some y → (b ≡ true) × (x ≡ y)
let_pass true x y e = (refl, some_same e)
let_pass false x y e = absurd (none_some e)
