use Rattle.wf_lineage.proofs.Answered.{answers_yes_law}
use Rattle.wf_lineage.proofs.law.answers_yes_law.Goals as goal

pub returns : goal.returns
returns c = answers_yes_law
