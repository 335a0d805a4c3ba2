use Rattle.outcome_laws.proofs.IngestGrows
use Rattle.outcome_laws.proofs.law.ingest_grows_law.Goals as goal

pub returns : goal.returns
returns c = IngestGrows.ingest_grows_law
