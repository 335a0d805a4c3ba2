-- `export`, `gen` and `drill` have an outcome.
use Rattle.std.proofs.Common.{ℕ, List, [], refl}
use Rattle.wf_io.specs.Told.{File}
use Rattle.wf_io.specs.Lines.{lines_in}
use Rattle.wf_message.specs.Endings.{Done}
use Rattle.wf_stage.specs.Ends.{IsWritten}
use Rattle.wf_stage.specs.Outcomes.{HasOutcome}
use Rattle.wf_inputs.specs.Inputs.{instance_most}
use Rattle.wf_inputs.proofs.SomeInputs.{some_spec_stage, some_view_stage}
use Rattle.wf_inputs.proofs.SomeRun.{some_events}
use Rattle.wf_inputs.proofs.ToldGrammars.{told_formed, told_proper}
use Rattle.wf_inputs.proofs.ViewComposites.{told_composites}
use Rattle.cmd_make.specs.Words.{Command, Export, Gen, Drill}
use Rattle.cmd_make.specs.Does.{Exports, Generates, Drills, Does}
use Rattle.cmd_make.proofs.SomeDrill.{some_drill as some_drilled}

-- a text is written
some_written : (text : List ℕ) → HasOutcome (IsWritten text)
some_written text = (Done, text, (refl, refl))

some_export : (spec view events : File) → HasOutcome (Exports spec view events)
some_export spec view events =
    some_spec_stage spec _ (λ h p. some_view_stage spec.bytes h p view _ (λ u q. some_events h.core instance_most (lines_in events) (λ r. []) _ (λ r told. some_written _)))

some_gen : (spec : File) (n seed : ℕ) → HasOutcome (Generates spec n seed)
some_gen spec n seed = some_spec_stage spec _ (λ h p. some_written _)

some_drill : (spec view : File) (n seed : ℕ) → HasOutcome (Drills spec view n seed)
some_drill spec view n seed =
    some_spec_stage spec _ (λ h p. some_view_stage spec.bytes h p view _ (λ u q.
    some_drilled h.core u (told_formed spec.bytes h p) (told_proper spec.bytes h p) (told_composites h.core (told_formed spec.bytes h p) view.bytes u q) q.safe n seed))

pub some_making : (files : List ℕ → File) (c : Command) → HasOutcome (Does files c)
some_making files (Export s v e) = some_export (files s) (files v) (files e)
some_making files (Gen s n seed) = some_gen (files s) n seed
some_making files (Drill s v n seed) = some_drill (files s) (files v) n seed
