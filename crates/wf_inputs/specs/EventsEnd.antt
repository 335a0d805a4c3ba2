-- The end of the program where the lines of a file of events stop.
use Rattle.std.specs.Prelude.{Option, Some, None, codes}
use Rattle.report_model.specs.Intake.{ReportFault}
use Rattle.wf_intake.specs.Intakes.{fault_told}
use Rattle.wf_message.specs.Endings.{End, Refused, NoMemory}
use Rattle.wf_inputs.specs.RunTold.{report_end}
use Rattle.wf_inputs.specs.declared.event_stop.EventStop.{EventStop}
use Rattle.wf_inputs.specs.declared.event_stop.EventStop.TheVariants.{NotJson, WrongShape, Report}

-- where a report is not taken: it is refused, or memory is
abbrev pub intake_end : Option ReportFault → End
intake_end None = NoMemory
intake_end (Some r) = report_end r

-- where a line, or the end of the file, stops them
abbrev pub event_end : EventStop → End
event_end (NotJson line) = Refused (codes "events") (Some line) (codes "NotJson")
event_end (WrongShape line) = Refused (codes "events") (Some line) (codes "WrongShape")
event_end (Report fault) = intake_end (fault_told fault)
