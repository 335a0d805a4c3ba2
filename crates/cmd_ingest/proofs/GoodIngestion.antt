-- `ingest` over good files does all that it is to do.
use Rattle.std.proofs.Common.{◌≡◌, ℕ, List}
use Rattle.wf_io.specs.Told.{File}
use Rattle.wf_io.specs.Lines.{lines_in}
use Rattle.wf_stage.specs.Outcomes.{EndsInDone}
use Rattle.wf_inputs.specs.Inputs.{instance_most}
use Rattle.wf_inputs.proofs.GoodFiles.{spec_goes_on}
use Rattle.wf_inputs.proofs.OneRun.{events_goes_on}
use Rattle.cmd_ingest.specs.Words.{Command, Ingest}
use Rattle.cmd_ingest.specs.Ingested.{file_of, WritesFile}
use Rattle.cmd_ingest.specs.Does.{Does}
use Rattle.cmd_ingest.specs.Family.{CanIngest}

pub good_ingestion : (files : List ℕ → File) (c : Command) → CanIngest files c → EndsInDone (Does files c)
good_ingestion files (Ingest s v) good e t h =
    (events_goes_on good.0.core instance_most (lines_in (files v)) (file_of good.0.core) (WritesFile good.0.core) good.2.0 good.2.1 e t
    (spec_goes_on (files s) good.0 good.1 _ e t h)).0
