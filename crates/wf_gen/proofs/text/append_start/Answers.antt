use Rattle.std.specs.Fmt.{digits}
use Rattle.wf_gen.proofs.text.append_start.Goals as goal

pub returns-clause-ok : goal.returns-clause-ok
unfolding digits
returns-clause-ok c = c.append_part.ensures.ok
