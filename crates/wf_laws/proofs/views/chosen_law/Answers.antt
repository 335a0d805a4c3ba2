use Rattle.wf_laws.proofs.Safety
use Rattle.wf_laws.proofs.views.chosen_law.Goals as goal

pub returns : goal.returns
returns c = Safety.chosen_law
