use Rattle.label_model.proofs.Visits
use Rattle.label_model.proofs.places.one_visit_law.Goals as goal

pub returns : goal.returns
returns c = Visits.one_visit_law
