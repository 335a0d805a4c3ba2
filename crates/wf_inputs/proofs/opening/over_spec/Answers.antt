use Rattle.wf_inputs.proofs.Taking.{spec_stops, spec_goes}
use Rattle.wf_inputs.proofs.opening.over_spec.Goals as goal

pub returns-in-Ok-clause-obeys : goal.returns-in-Ok-clause-obeys
returns-in-Ok-clause-obeys g c = spec_goes _ _ _ _ _ _ _ _ c.in-Ok.ensures.reads c.obey_over.ensures.obeys

pub returns-in-Err-clause-obeys : goal.returns-in-Err-clause-obeys
returns-in-Err-clause-obeys g c = spec_stops _ _ _ _ _ c.in-Err.ensures.reads
