use Rattle.words_model.proofs.LiftedViews
use Rattle.words_model.proofs.laws.lifted_view_law.Goals as goal

pub returns : goal.returns
returns c = LiftedViews.lifted_view_law
