-- A run that a file of events tells is accepted, and has the events that are reported.
use Rattle.std.proofs.Common.{◌≡◌, List, sym, ap, ◌∙◌, subst}
use Rattle.std.specs.Prelude.{◌↔◌}
use Rattle.wf_model.specs.Lists.{IsIn, AllDiffer}
use Rattle.wf_model.specs.declared.event.Event.{Event}
use Rattle.wf_model.specs.Grammar.{Grammar}
use Rattle.report_model.specs.Reports.{reported}
use Rattle.report_model.specs.Intake.{state_after}
use Rattle.report_model.specs.Laws.{AreTaken}
use Rattle.report_model.proofs.TakenReports.{taken_law}
use Rattle.wf_io.specs.Lines.{FileLines}
use Rattle.wf_inputs.specs.Inputs.{instance_most}
use Rattle.wf_inputs.specs.RunTold.{TellsEvents}
use Rattle.wf_inputs.proofs.OneRun.{events_accepted}
use Rattle.outcome_laws.specs.Laws.{IsToldRun, ToldRunLaw}

module _ (g : Grammar) (file : FileLines) (es : List Event) (told : TellsEvents g instance_most file es) where
  taken : AreTaken g instance_most told.reports
  taken = taken_law g instance_most told.reports told.state told.taken

  -- the run of the intake is that of the file
  same_run : taken.state.run ≡ es
  same_run = ap (λ u. (state_after u).run) (sym taken.goes_on ∙ told.taken) ∙ told.run

  told_run : IsToldRun g file es
  told_run = record {
    accepted = events_accepted g instance_most file es told;
    once = subst AllDiffer same_run taken.once;
    reported = record { whole = told.whole; reports = told.reports; read = told.read; same = subst (λ run. (x : Event) → IsIn x (reported told.reports) ↔ IsIn x run) same_run taken.events };
  }

pub told_run_law : ToldRunLaw
told_run_law = told_run
