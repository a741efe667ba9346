use Rattle.std.proofs.Common.{◌≡◌, Bool, true, Some, None, Option, MatchOption, MutBor, rules, tests}
use Rattle.std.proofs.lemmas.Bool.{false≢true}
use Rattle.std.proofs.lemmas.Fn.{chained_keeps}
use Rattle.rows_checks.proofs.alike.Goals as goal

ended : {A : Type 0} (o : Option A) (r : Bool) (Stops : A → Type 0) → MatchOption o (r ≡ true) Stops → ((x : A) → Stops x → ⊥) → r ≡ true
ended None r Stops at never = at
ended (Some x) r Stops at never = absurd (never x at)

pub returns : goal.returns
returns g c e f =
    let h = c.all.ensures.ran in
    let Same : MutBor g.row.S.Denot × MutBor g.row.T.Denot → Type 0 = λ p. (g.S.RowStore.pairs p.0.now ≡ g.T.RowStore.pairs p.1.now) × (g.S.RowStore.room p.0.now ≡ g.T.RowStore.room p.1.now) in
    let still : Same h.2 = chained_keeps _ (λ _ q. Same q) (λ xs q x v same step. search (rules, tests)) h.0 _ h.2 (e, f) h.4 in
    ended h.1 c.all.result _ h.5 (λ x stop. false≢true (search (rules, tests)))
