use Rattle.wf_laws.proofs.Alike
use Rattle.wf_laws.proofs.paths.own_pairs_law.Goals as goal

pub returns : goal.returns
returns c = Alike.own_pairs_law
