use Rattle.wf_message.specs.Endings.{end_of}
use Rattle.wf_inputs.proofs.SpecSteps.{parts_decline}
use Rattle.wf_inputs.proofs.specification.grammar_of_parts.Goals as goal

pub returns-in-Err-clause-declines : goal.returns-in-Err-clause-declines
returns-in-Err-clause-declines c =
    parts_decline c.args.parts c.in-Err.fault (end_of c.form_stop.result) c.in-Err.ensures.refused c.form_stop.ensures.memory c.form_stop.ensures.refused
