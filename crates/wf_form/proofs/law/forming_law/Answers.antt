use Rattle.wf_form.proofs.Lawful.{law}
use Rattle.wf_form.proofs.law.forming_law.Goals as goal

pub returns : goal.returns
returns c = law
