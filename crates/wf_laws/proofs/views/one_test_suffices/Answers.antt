use Rattle.wf_laws.proofs.Safe
use Rattle.wf_laws.proofs.views.one_test_suffices.Goals as goal

pub returns : goal.returns
returns c = Safe.one_test_suffices
