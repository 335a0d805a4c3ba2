-- `ingest` has an outcome.
use Rattle.std.proofs.Common.{ℕ, List, refl}
use Rattle.wf_io.specs.Told.{File}
use Rattle.wf_io.specs.Lines.{lines_in}
use Rattle.wf_message.specs.Endings.{Done}
use Rattle.wf_stage.specs.Outcomes.{HasOutcome}
use Rattle.wf_inputs.specs.Inputs.{instance_most}
use Rattle.wf_inputs.proofs.SomeInputs.{some_spec_stage}
use Rattle.wf_inputs.proofs.SomeRun.{some_events}
use Rattle.cmd_ingest.specs.Words.{Command, Ingest}
use Rattle.cmd_ingest.specs.Ingested.{file_of, WritesFile}
use Rattle.cmd_ingest.specs.Does.{Ingests, Does}

some_ingest : (spec events : File) → HasOutcome (Ingests spec events)
some_ingest spec events =
    some_spec_stage spec _ (λ h told.
    some_events h.core instance_most (lines_in events) (file_of h.core) (WritesFile h.core) (λ es run. (Done, file_of h.core es, (refl, refl))))

pub some_ingestion : (files : List ℕ → File) (c : Command) → HasOutcome (Does files c)
some_ingestion files (Ingest a b) = some_ingest (files a) (files b)
