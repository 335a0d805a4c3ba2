use Rattle.wf_body.proofs.Entering.{head_itself, other_itself}
use Rattle.wf_body.proofs.pass.itself.Goals as goal

pub returns-in_default : goal.returns-in_default
returns-in_default c = other_itself c.args.from c.in-Some.s c.args.k.0 c.args.o c.in-Some.is c.if-s-k.false

pub returns-in_default-2 : goal.returns-in_default-2
returns-in_default-2 c = head_itself c.args.from c.args.k.0 c.args.o c.in_default.is
