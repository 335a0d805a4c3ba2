use Rattle.wf_body.proofs.Links.{led_to}
use Rattle.wf_body.proofs.law.body_law.Goals as goal

pub returns : goal.returns
returns c = led_to
