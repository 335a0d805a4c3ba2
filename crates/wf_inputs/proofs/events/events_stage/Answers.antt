use Rattle.wf_lines.proofs.Openings.{opened_reading}
use Rattle.wf_inputs.proofs.events.events_stage.Goals as goal

pub run_of_lines-requires-clause-reading : goal.run_of_lines-requires-clause-reading
run_of_lines-requires-clause-reading g c = opened_reading _ _ c.in-Ok.ensures _

pub returns-clause-reads : goal.returns-clause-reads
returns-clause-reads g c = c.run_of_lines.ensures.reads _ c.in-Ok.ensures
