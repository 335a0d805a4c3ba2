use Rattle.wf_loops.proofs.GoodOrNot.{good_loops_law}
use Rattle.wf_loops.proofs.law.good_loops_law.Goals as goal

pub returns : goal.returns
returns c = good_loops_law
