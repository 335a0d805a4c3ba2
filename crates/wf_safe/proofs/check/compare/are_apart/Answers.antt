use Rattle.wf_safe.proofs.Tables.{few_outputs}
use Rattle.wf_safe.proofs.check.compare.are_apart.Goals as goal

pub is_joined-one-requires-clause-output : goal.is_joined-one-requires-clause-output
is_joined-one-requires-clause-output c = few_outputs c.args.g.now.core c.args.w.now.«module».0 c.args.w.now.other.0 c.args.w.now.output.0 c.requires.formed c.requires.numbers.other c.requires.numbers.output

pub have_pair-other-requires : goal.have_pair-other-requires
have_pair-other-requires c = few_outputs c.args.g.now.core c.args.w.now.«module».0 c.args.w.now.other.0 c.args.w.now.output.0 c.requires.formed c.requires.numbers.other c.requires.numbers.output
