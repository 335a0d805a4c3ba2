use Rattle.cmd_ingest.proofs.GoodIngestion.{good_ingestion}
use Rattle.cmd_ingest.proofs.family.FamilyCommands.good_call.Goals as goal

pub returns : goal.returns
returns c = good_ingestion
