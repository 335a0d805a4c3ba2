use Rattle.label_model.proofs.RunPrefixes
use Rattle.label_model.proofs.runs.prefix_in_run_law.Goals as goal

pub returns : goal.returns
returns c = RunPrefixes.prefix_in_run_law
