use Rattle.std.proofs.Common.{[]}
use Rattle.wf_json.specs.Writing.{first_text}
use Rattle.wf_json.proofs.hashing.first_digest.Goals as goal

pub returns : goal.returns
returns c = c.digest.ensures (first_text c.args.g.now.core c.args.modules c.args.productions) (c.in_ok-put_first.ensures.taken [] c.in_ok-text.ensures)
