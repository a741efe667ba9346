-- Pairs come to the queue at its end.
use Rattle.std.proofs.Common.{◌≡◌, ℕ, ◌+◌, ◌<◌, ◌≢◌, ◌⊎◌, length, get_or, set, sym, ap, ◌∙◌, inl, inr, ⊎_elim, arith, get_or-set_other, get_or-set_same}
use Rattle.std.proofs.lemmas.Bool.{cases_eq}
use Rattle.difference.specs.declared.pending.Pair.{Pair}
use Rattle.difference.specs.declared.pending.Pending.{Pending}
use Rattle.difference.specs.Queue.{pair_at, Pends, Pushed}

pub pushed : (q q' : Pending) (pair : Pair) → q.tail < length q.pairs → q'.pairs ≡ set q.pairs q.tail pair → q'.head ≡ q.head → q'.tail ≡ q.tail + 1 → Pushed q q' pair
pushed q q' pair room pairs head tail = record { stays = stays; comes = comes; only = only; head = head; tail = tail }
  where
    there : (i : ℕ) → i ≢ q.tail → pair_at q' i ≡ pair_at q i
    there i ne = ap (λ l. get_or l i (record { variable = 0; object = 0 })) pairs ∙ get_or-set_other q.pairs q.tail i pair (record { variable = 0; object = 0 }) ne

    here : pair_at q' q.tail ≡ pair
    here = ap (λ l. get_or l q.tail (record { variable = 0; object = 0 })) pairs ∙ get_or-set_same q.pairs q.tail pair (record { variable = 0; object = 0 }) room

    stays : (x y : ℕ) → Pends q x y → Pends q' x y
    stays x y (i, from, below, is_x, is_y) =
        let ne : i ≢ q.tail = omega arith in
        (i, omega arith, omega arith, ap (λ p. p.variable) (there i ne) ∙ is_x, ap (λ p. p.object) (there i ne) ∙ is_y)

    comes : Pends q' pair.variable pair.object
    comes = (q.tail, omega (arith, q.ordered), omega arith, ap (λ p. p.variable) here, ap (λ p. p.object) here)

    only : (x y : ℕ) → Pends q' x y → Pends q x y ⊎ ((x ≡ pair.variable) × (y ≡ pair.object))
    only x y (i, from, below, is_x, is_y) = ⊎_elim
        (λ e.
        let is : pair_at q' i ≡ pair = ap (pair_at q') e ∙ here in
        inr (sym is_x ∙ ap (λ p. p.variable) is, sym is_y ∙ ap (λ p. p.object) is))
        (λ ne. inl (i, omega arith, omega (arith, ne), sym (ap (λ p. p.variable) (there i ne)) ∙ is_x, sym (ap (λ p. p.object) (there i ne)) ∙ is_y))
        (cases_eq i q.tail)
