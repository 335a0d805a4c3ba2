use Rattle.cmd_make.proofs.SomeDrill
use Rattle.cmd_make.proofs.law.pairs_counted_law.Goals as goal

pub returns : goal.returns
returns c = SomeDrill.pairs_counted_law
