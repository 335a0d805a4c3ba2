use Rattle.wf_query.proofs.Queries.{query_law}
use Rattle.wf_query.proofs.law.query_law.Goals as goal

pub returns : goal.returns
returns c = query_law
