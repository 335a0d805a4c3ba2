-- `ingest` has one outcome at most.
use Rattle.std.proofs.Common.{ℕ, List, sym, ◌∙◌}
use Rattle.wf_io.specs.Told.{File}
use Rattle.wf_io.specs.Lines.{lines_in}
use Rattle.wf_stage.specs.Outcomes.{HasOneOutcome}
use Rattle.wf_inputs.specs.Inputs.{instance_most}
use Rattle.wf_inputs.proofs.OneRun.{one_events}
use Rattle.wf_inputs.proofs.OneStages.{one_spec_stage}
use Rattle.cmd_ingest.specs.Words.{Command, Ingest}
use Rattle.cmd_ingest.specs.Ingested.{file_of, WritesFile}
use Rattle.cmd_ingest.specs.Does.{Ingests, Does}

one_ingest : (spec events : File) → HasOneOutcome (Ingests spec events)
one_ingest spec events =
    one_spec_stage spec _ (λ h told.
    one_events h.core instance_most (lines_in events) (file_of h.core) (WritesFile h.core) (λ es run d e t s p q. (p.0 ∙ sym q.0, p.1 ∙ sym q.1)))

pub one_ingestion : (files : List ℕ → File) (c : Command) → HasOneOutcome (Does files c)
one_ingestion files (Ingest a b) = one_ingest (files a) (files b)
