use Rattle.cmd_ingest.proofs.OneIngestion.{one_ingestion}
use Rattle.cmd_ingest.proofs.family.FamilyCommands.one_outcome.Goals as goal

pub returns : goal.returns
returns c = one_ingestion
