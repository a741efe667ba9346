use Rattle.constraints.specs.Lists.{system_of}
use Rattle.constraints.proofs.Sound.{list_valid}
use Rattle.flows.proofs.Walks.{closure_bits}
use Rattle.flows.proofs.copies.copy_reach.Goals as goal

pub returns : goal.returns
returns c =
    let list = c.args.list.now in
    record {
      closure = c.reachable.ensures;
      reach = closure_bits (system_of list) (list_valid list) c.reachable.new.m.words c.reachable.ensures;
    }
