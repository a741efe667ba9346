-- What is chosen means what it meant.
use Rattle.piles.specs.declared.choice.Choice.{Choice}
use Rattle.piles.specs.declared.choice.Choice.TheVariants.{First, Second}

abbrev pub chosen {ℓ} : {A B : Type 0} {X : Type ℓ} → (A → X) → (B → X) → Choice A B → X
chosen f g (First a) = f a
chosen f g (Second b) = g b

-- a fact of each is one of what is chosen
abbrev pub fact_of : {A B X : Type 0} (P : X → Type 0) {f : A → X} {g : B → X}
    → ((a : A) → P (f a)) → ((b : B) → P (g b)) → (c : Choice A B) → P (chosen f g c)
fact_of P p q (First a) = p a
fact_of P p q (Second b) = q b
