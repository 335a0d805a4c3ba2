use Rattle.wf_spec.proofs.Rows.{pair_added}
use Rattle.wf_spec.proofs.lists.rows.add_pair.Goals as goal

pub returns-clause-added : goal.returns-clause-added
returns-clause-added c = pair_added c.args.rows.now c.args.pair.input.0 c.args.pair.output.0 c.requires.input c.requires.output
