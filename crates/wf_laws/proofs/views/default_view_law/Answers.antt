use Rattle.wf_model.proofs.DefaultView
use Rattle.wf_laws.proofs.views.default_view_law.Goals as goal

pub returns : goal.returns
returns c = DefaultView.default_is_default
