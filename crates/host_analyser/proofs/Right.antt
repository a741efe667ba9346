-- What ties an analyser to its engine, out of its ghost field.
use Rattle.std.proofs.Common.{◌≡◌, ℕ, List, Some, None, Option, refl, ap}
use mathlib.Core.HLevel.{Discrete, hedberg}
use mathlib.Core.Logic.{∥∥₁_elim}
use native.Mathlib.Decide.{ℕ_discrete}
use std.HLevel.{Π_prop}
use denote.Struct.Props.{props}
use Rattle.engine.specs.Meanings.{Meaning}
use Rattle.books.specs.Books.{standing, table, Book as Lawful, Book-prop}
use Rattle.standing.specs.declared.list.UnitList.{UnitList}
use Rattle.standing.specs.declared.standing_units.StandingUnits.{StandingUnits}
use Rattle.names.specs.Held.{notes}
use Rattle.standing.specs.Firsts.{first_in, laid_first}
use Rattle.standing.specs.States.{units_of, LaidOut}
use Rattle.host_analyser.specs.InStep.{SettledRight, SettledRight-prop}

option_discrete : Discrete (Option ℕ)
option_discrete None None = yes refl
option_discrete None (Some b) = no (λ e. cc e)
option_discrete (Some a) None = no (λ e. cc e)
option_discrete (Some a) (Some b) = elim (ℕ_discrete a b) [ yes e ↦ yes (ap Some e) | no ne ↦ no (λ e. ne (cc)) ]

lawful_fact : (texts : List (List ℕ)) → IsProp (Lawful texts)
lawful_fact texts =
    Book-prop (Π_prop (λ t. Π_prop (λ m. hedberg option_discrete _ _)))
    (Π_prop (λ t. Π_prop (λ u. Π_prop (λ n. Π_prop (λ a. Π_prop (λ b. Π_prop (λ x. Π_prop (λ y. hlevel props)))))))) (hlevel props) (hlevel props) (hlevel props) (hlevel props)

laid_fact : (units : StandingUnits) → IsProp (LaidOut units)
unfolding LaidOut
laid_fact units =
    let each : (n : List ℕ) → IsProp (◌≡◌ (first_in (notes units.names n)) (laid_first (table (standing (units_of units))) n)) = λ n. hlevel props in
    Π_prop each

pub right_of : {m : Meaning} {units : StandingUnits} {list : UnitList} → ∥ SettledRight m units list ∥₁ → SettledRight m units list
right_of s = ∥∥₁_elim s (SettledRight-prop (hlevel props) (hlevel props) (lawful_fact _) (laid_fact _) (hlevel props) (hlevel props)) (λ x. x)
