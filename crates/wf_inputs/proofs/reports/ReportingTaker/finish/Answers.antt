use Rattle.std.proofs.Common.{ap, ◌∙◌}
use Rattle.wf_intake.specs.Intakes.{fault_told}
use Rattle.wf_stage.proofs.LineEnds.{told_is}
use Rattle.wf_inputs.specs.declared.event_stop.EventStop.TheVariants.{Report}
use Rattle.wf_inputs.specs.EventsEnd.{intake_end, event_end}
use Rattle.wf_inputs.proofs.ReportLines.{still_taken, held_none, held_first, refused_or_wanting}
use Rattle.wf_inputs.proofs.reports.ReportingTaker.finish.Goals as goal

pub returns-in-Ok-clause-finished : goal.returns-in-Ok-clause-finished
returns-in-Ok-clause-finished g c = λ s at.
    let r = g.R.Grows in
    let old = c.args.self.now in
    let clear = c.clear.ensures in (
      held_none (r.grammar old.run) (r.most old.run) old.inbox.kept old.reported (r.is_run old.run) (r.text c.clear.new.self) clear.text c.in-Ok.ensures.none s at,
      still_taken (r.grammar old.run) (r.grammar c.clear.new.self) (r.most old.run) (r.most c.clear.new.self) old.inbox.kept old.reported (r.is_run old.run) (r.is_run c.clear.new.self) clear.grammar clear.most clear.run s at,
    )

pub returns-in-Err-clause-stopped : goal.returns-in-Err-clause-stopped
returns-in-Err-clause-stopped g c = λ e told s at.
    let r = g.R.Grows in
    let old = c.args.self.now in
    let orphan = c.in-Err.ensures.orphan in
    held_first (r.grammar old.run) (r.most old.run) old.inbox.kept old.reported (r.is_run old.run) (r.text c.clear.new.self) c.clear.ensures.text orphan.0 orphan.2 e
    (told_is (event_end (Report c.in-Err.fault)) e told ∙ ap intake_end (ap fault_told orphan.1)) s at

pub returns-in-Err-clause-fault : goal.returns-in-Err-clause-fault
returns-in-Err-clause-fault g c = refused_or_wanting c.in-Err.fault
