use Rattle.label_model.proofs.PlaceRoutes
use Rattle.label_model.proofs.places.place_law.Goals as goal

pub returns : goal.returns
returns c = PlaceRoutes.place_law
