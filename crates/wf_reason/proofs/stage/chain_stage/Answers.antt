use Rattle.wf_lines.proofs.Openings.{opened_reading}
use Rattle.wf_reason.proofs.stage.chain_stage.Goals as goal

pub chain_of_lines-requires-clause-reading : goal.chain_of_lines-requires-clause-reading
chain_of_lines-requires-clause-reading g c = opened_reading _ _ c.in-Ok.ensures _

pub returns : goal.returns
returns g c = record { reads = c.chain_of_lines.ensures.reads _ c.in-Ok.ensures }
