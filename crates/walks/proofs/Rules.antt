-- A rule while rows grow.
use Rattle.std.proofs.Common.{ℕ, ◌+◌, List}
use Rattle.constraints.specs.Rows.{Relation}
use Rattle.constraints.specs.Constraint.{Meets}
use Rattle.constraints.specs.declared.constraint.Constraint.{Constraint}
use Rattle.constraints.specs.declared.constraint.Constraint.TheVariants.{Address as address, Copy as copy, Load as load, Store as store}
use Rattle.walks.specs.Rules.{Rule}

-- into more rows
pub rule_grows : (blocks : List ℕ) (P Q R : Relation) (c : Constraint) → ((v o : ℕ) → Q v o → R v o) → Rule blocks c P Q → Rule blocks c P R
rule_grows blocks P Q R (address p o) g m = g p o m
rule_grows blocks P Q R (copy p q) g m = λ o h. g p o (m o h)
rule_grows blocks P Q R (load p q k) g m = λ o x h l e. g p x (m o x h l e)
rule_grows blocks P Q R (store p k q) g m = λ o x h l e. g (o + k) x (m o x h l e)

-- of fewer pairs less is asked
pub rule_less : (blocks : List ℕ) (Q P R : Relation) (c : Constraint) → ((v o : ℕ) → Q v o → P v o) → Rule blocks c P R → Rule blocks c Q R
rule_less blocks Q P R (address p o) l m = m
rule_less blocks Q P R (copy p q) l m = λ o h. m o (l q o h)
rule_less blocks Q P R (load p q k) l m = λ o x h b g. m o x (l q o h) b (l (o + k) x g)
rule_less blocks Q P R (store p k q) l m = λ o x h b g. m o x (l p o h) b (l q x g)

-- rows meet a rule where it holds from them to themselves
pub meets_rule : (blocks : List ℕ) (c : Constraint) (R : Relation) → Meets blocks c R → Rule blocks c R R
meets_rule blocks (address p o) R m = m
meets_rule blocks (copy p q) R m = m
meets_rule blocks (load p q k) R m = m
meets_rule blocks (store p k q) R m = m

pub rule_meets : (blocks : List ℕ) (c : Constraint) (R : Relation) → Rule blocks c R R → Meets blocks c R
rule_meets blocks (address p o) R m = m
rule_meets blocks (copy p q) R m = m
rule_meets blocks (load p q k) R m = m
rule_meets blocks (store p k q) R m = m
