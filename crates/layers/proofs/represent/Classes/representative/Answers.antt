use Rattle.std.proofs.Common.{◌∙◌}
use Rattle.layers.proofs.Peers.{stays, by_open, by_plain_or}
use Rattle.layers.proofs.represent.Classes.representative.Goals as goal

pub returns-then-is_open-clause-value : goal.returns-then-is_open-clause-value
returns-then-is_open-clause-value c sys same width told numbers =
    let s = c.args.self.now in
    stays sys same s.is_open s.class s.count c.args.v width told numbers c.requires c.if-is_open.true

pub returns-in-Some-clause-value : goal.returns-in-Some-clause-value
returns-in-Some-clause-value c sys same width told numbers =
    let s = c.args.self.now in
    by_open sys same s.is_open s.class s.count c.args.v width told numbers c.requires c.if-is_open.false c.in-Some.u c.in-Some.ensures

pub returns-in-None-clause-value : goal.returns-in-None-clause-value
returns-in-None-clause-value c sys same width told numbers =
    let s = c.args.self.now in
    c.unwrap_or.ensures
    ∙ by_plain_or sys same s.is_open s.class s.count c.args.v width told numbers c.requires c.if-is_open.false c.in-None.ensures
    c.lowest-in-None.result c.lowest-in-None.ensures
