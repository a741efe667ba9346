use Rattle.histories.proofs.Agreement.{questions_alike}
use Rattle.histories.proofs.Lawful.{history_lawful}
use Rattle.histories.proofs.Runs.{replayed}
use Rattle.histories.proofs.history.audit.Goals as goal

pub returns : goal.returns
returns g c =
    let rule = (g.E.Engine.meaning c.args.one).rule in
    let other_rule = (g.F.Engine.meaning c.args.other).rule in
    let calls = c.args.calls.now in
    let others = c.args.others.now in
    let further = c.args.further.now in
    let host = c.new-host.ensures in
    let fresh = c.new-fresh.ensures in
    let ran = c.in_ok-first.ensures in
    let other_ran = c.in_ok-second.ensures in
    let first = replayed rule _ _ _ _ calls further _ _ host.rule host.made ran.says ran.after ran.rule c.in_ok-first_further.ensures.says in
    let second = replayed other_rule _ _ _ _ others further _ _ fresh.rule fresh.made other_ran.says other_ran.after other_ran.rule c.in_ok-second_further.ensures.says in
    record {
      first = first.0;
      second = second.0;
      first_further = first.1;
      second_further = second.1;
      alike = λ settled other_settled same questions.
          questions_alike rule other_rule _ _ (history_lawful rule calls) (history_lawful other_rule others) further questions _ _ first.1 second.1 settled other_settled same;
    }
