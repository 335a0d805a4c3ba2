-- `export`, `gen` and `drill` have one outcome at most.
use Rattle.std.proofs.Common.{ℕ, List, [], sym, ◌∙◌}
use Rattle.wf_io.specs.Told.{File}
use Rattle.wf_io.specs.Lines.{lines_in}
use Rattle.wf_stage.specs.Ends.{IsWritten}
use Rattle.wf_stage.specs.Outcomes.{HasOneOutcome}
use Rattle.wf_inputs.specs.Inputs.{instance_most}
use Rattle.wf_inputs.proofs.OneRun.{one_events}
use Rattle.wf_inputs.proofs.OneStages.{one_spec_stage, one_view_stage}
use Rattle.cmd_make.specs.Words.{Command, Export, Gen, Drill}
use Rattle.cmd_make.specs.Does.{Exports, Generates, Drills, Does}
use Rattle.cmd_make.proofs.OneDrill.{one_drill as one_drilled}

-- what writes one text has one outcome
one_written : (text : List ℕ) → HasOneOutcome (IsWritten text)
one_written text d e t s p q = (p.0 ∙ sym q.0, p.1 ∙ sym q.1)

one_export : (spec view events : File) → HasOneOutcome (Exports spec view events)
one_export spec view events =
    one_spec_stage spec _ (λ h p. one_view_stage spec.bytes h p view _ (λ u q. one_events h.core instance_most (lines_in events) (λ r. []) _ (λ r told. one_written _)))

one_gen : (spec : File) (n seed : ℕ) → HasOneOutcome (Generates spec n seed)
one_gen spec n seed = one_spec_stage spec _ (λ h p. one_written _)

one_drill : (spec view : File) (n seed : ℕ) → HasOneOutcome (Drills spec view n seed)
one_drill spec view n seed = one_spec_stage spec _ (λ h p. one_view_stage spec.bytes h p view _ (λ u q. one_drilled h.core u n seed))

pub one_making : (files : List ℕ → File) (c : Command) → HasOneOutcome (Does files c)
one_making files (Export s v e) = one_export (files s) (files v) (files e)
one_making files (Gen s n seed) = one_gen (files s) n seed
one_making files (Drill s v n seed) = one_drill (files s) (files v) n seed
