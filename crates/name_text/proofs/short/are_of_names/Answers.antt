use Rattle.name_text.proofs.Fronts.{all_told}
use Rattle.name_text.proofs.short.are_of_names.Goals as goal

pub returns : goal.returns
returns c = all_told c.args.bytes.now c.names_first.result.0.now c.names_first.result.1.now c.is_empty.result c.names_first.ensures.whole c.names_first.ensures.names c.names_first.ensures.next c.is_empty.ensures
