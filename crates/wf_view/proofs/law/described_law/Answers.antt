use Rattle.wf_view.proofs.Described.{law}
use Rattle.wf_view.proofs.law.described_law.Goals as goal

pub returns : goal.returns
returns c = law
