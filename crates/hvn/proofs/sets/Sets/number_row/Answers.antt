use Rattle.hvn.proofs.Rowing.{settled_lone, settled_crowd}
use Rattle.hvn.proofs.sets.Sets.number_row.Goals as goal

pub returns-in-None-clause-is : goal.returns-in-None-clause-is
returns-in-None-clause-is c =
    settled_lone c.args.self.now.rows.words c.args.k c.in-Some.lone c.in-Some.ensures c.in-None.ensures

pub returns-in-Some-next_column-clause-is : goal.returns-in-Some-next_column-clause-is
returns-in-Some-next_column-clause-is c =
    let equal = c.first_equal.ensures in
    settled_crowd c.args.self.now.rows.words c.args.k c.in-Some.lone c.in-Some-next_column.field-0 c.first_equal.result
    c.in-Some.ensures c.in-Some-next_column.ensures equal.within equal.same equal.least
