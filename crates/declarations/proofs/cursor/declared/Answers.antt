use Rattle.std.proofs.Common.{⊎_elim}
use Rattle.declarations.proofs.Kept.{assign_none, store_none, invoke_none}
use Rattle.declarations.proofs.cursor.declared.Goals as goal

pub returns-in-Assign : goal.returns-in-Assign
returns-in-Assign c =
    record {
      is = λ text.
          ⊎_elim (λ w. assign_none text _ _ _ w.2) (⊎_elim (λ w. store_none text _ _ _ w.2) (λ w. invoke_none text _ _ w.1)) c.in-Assign.is;
      ends = tt;
    }
