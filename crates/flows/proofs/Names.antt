-- The words of a list name its variables.
use Rattle.std.proofs.Common.{◌≡◌, ℕ, zero, suc, ◌<◌, ◌≤◌, List, length, get_or, sym, subst, arith}
use Rattle.constraints.specs.declared.constraint.Constraint.{Constraint}
use Rattle.constraints.specs.declared.constraint.Constraint.TheVariants.{Address as address, Copy as copy, Load as load, Store as store}
use Rattle.constraints.specs.Constraint.{System, var_count, Valid, WellFormed, left, offset, right, decode, of_kind}
use Rattle.flows.specs.Names.{NamesBelow}

names_kind : (m n p k q : ℕ) → p < m → q < m → k < 8 → NamesBelow m (of_kind n p k q)
names_kind m zero p k q hp hq hk = (hp, hq)
names_kind m (suc zero) p k q hp hq hk = (hp, hq)
names_kind m (suc (suc zero)) p k q hp hq hk = (hp, hq, hk)
names_kind m (suc (suc (suc n))) p k q hp hq hk = (hp, hq, hk)

names_wider : (m n : ℕ) (c : Constraint) → m ≤ n → NamesBelow m c → NamesBelow n c
names_wider m n (address p o) le h = (omega (arith, h), omega (arith, h))
names_wider m n (copy p q) le h = (omega (arith, h), omega (arith, h))
names_wider m n (load p q k) le h = (omega (arith, h), omega (arith, h), h.2)
names_wider m n (store p k q) le h = (omega (arith, h), omega (arith, h), h.2)

module _ (sys : System) (valid : Valid sys) (words : List ℕ) (same : words ≡ sys.words) (i : ℕ) (lt : i < length words) (c : Constraint)
    (is : c ≡ decode (get_or words i 0)) where
  -- a word names variables of the system
  pub names_word : NamesBelow (var_count sys) c
  unfolding decode
  names_word =
      let formed = subst (λ ws. WellFormed sys.blocks (get_or ws i 0)) (sym same) (valid.formed i (subst (λ ws. i < length ws) same lt)) in
      let w = get_or words i 0 in
      subst (NamesBelow (var_count sys)) (sym is) (names_kind (var_count sys) _ (left w) (offset w) (right w) formed.left_in formed.right_in (omega arith))

  pub names_small : NamesBelow 256 c
  names_small = names_wider (var_count sys) 256 c valid.few names_word
