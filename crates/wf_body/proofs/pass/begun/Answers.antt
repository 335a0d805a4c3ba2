use Rattle.wf_body.proofs.Entering.{begun_head, begun_position}
use Rattle.wf_body.proofs.pass.begun.Goals as goal

pub returns-in-None : goal.returns-in-None
returns-in-None c = begun_head c.args.g.now.core c.args.p.0 c.args.k.0 c.args.from c.entered.result c.in-None.is c.entered.ensures

pub returns-in-Some : goal.returns-in-Some
returns-in-Some c = begun_position c.args.g.now.core c.args.p.0 c.args.k.0 c.args.from c.in-Some.field-0 c.in-Some.is
