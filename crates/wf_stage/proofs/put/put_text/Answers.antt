use Rattle.std.proofs.Common.{refl, rules}
use Rattle.wf_stage.proofs.Writing.{writes_whole, writes_part}
use Rattle.wf_stage.proofs.put.put_text.Goals as goal

pub returns-in-Ok-clause-writes : goal.returns-in-Ok-clause-writes
returns-in-Ok-clause-writes g c = writes_whole c.args.text.now _ _ c.in-Ok.ensures.ok c.in-Ok.ensures.ok_count

pub returns-in-Err-clause-writes : goal.returns-in-Err-clause-writes
returns-in-Err-clause-writes g c = writes_part c.args.text.now _ _ (search (rules)) (c.in-Err.ensures.err refl) (c.in-Err.ensures.cause refl) c.in-Err.ensures.later
