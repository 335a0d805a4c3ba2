use Rattle.wf_events.proofs.ReadBack.{written_law}
use Rattle.wf_events.proofs.law.written_law.Goals as goal

pub returns : goal.returns
returns c = written_law
