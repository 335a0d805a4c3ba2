use Rattle.wf_lineage.proofs.Answered.{mirror_law}
use Rattle.wf_lineage.proofs.law.mirror_law.Goals as goal

pub returns : goal.returns
returns c = mirror_law
