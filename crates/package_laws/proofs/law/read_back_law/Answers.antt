use Rattle.package_laws.proofs.ReadBack
use Rattle.package_laws.proofs.law.read_back_law.Goals as goal

pub returns : goal.returns
returns c = ReadBack.read_back c.package_law.ensures c.package_loops_law.ensures c.seen_lists_law.ensures
