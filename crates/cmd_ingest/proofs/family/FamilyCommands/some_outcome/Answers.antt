use Rattle.cmd_ingest.proofs.SomeIngestion.{some_ingestion}
use Rattle.cmd_ingest.proofs.family.FamilyCommands.some_outcome.Goals as goal

pub returns : goal.returns
returns c = some_ingestion
