use Rattle.wf_model.proofs.Whole
use Rattle.wf_laws.proofs.runs.all_seen_law.Goals as goal

pub returns : goal.returns
returns c = Whole.seen_is_made
