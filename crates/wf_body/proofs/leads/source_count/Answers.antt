use Rattle.wf_body.proofs.Meaning.{count_sources}
use Rattle.wf_body.proofs.leads.source_count.Goals as goal

pub returns-in-Some-clause-count : goal.returns-in-Some-clause-count
returns-in-Some-clause-count c = count_sources c.args.g.now.core c.args.p.0 c.standing.result.0 c.output_count.result c.args.from c.in-Some.s c.in-Some.is c.standing.ensures.stands c.output_count.ensures.count
