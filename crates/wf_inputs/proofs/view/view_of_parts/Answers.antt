use Rattle.wf_message.specs.Endings.{end_of}
use Rattle.wf_inputs.proofs.ViewSteps.{view_parts_decline}
use Rattle.wf_inputs.proofs.view.view_of_parts.Goals as goal

pub returns-in-Err-clause-declines : goal.returns-in-Err-clause-declines
returns-in-Err-clause-declines c =
    view_parts_decline c.args.place.word.now c.args.g.now.core c.args.parts.now c.in-Err.fault (end_of c.view_stop.result) c.in-Err.ensures.refused c.view_stop.ensures.memory c.view_stop.ensures.refused
