use Rattle.std.proofs.Common.{refl}
use Rattle.wf_body.proofs.Bits.{within}
use Rattle.wf_body.proofs.word.is_within.Goals as goal

pub returns : goal.returns
returns c = within c.args.part c.args.whole _ refl
