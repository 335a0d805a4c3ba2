use Rattle.wf_model.proofs.ItemNames
use Rattle.wf_laws.proofs.items.item_names_law.Goals as goal

pub returns : goal.returns
returns c = ItemNames.item_of_name
