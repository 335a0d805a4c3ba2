use Rattle.wf_spec.proofs.Finding.{is_found}
use Rattle.wf_form.proofs.wiring.module_number.Goals as goal

pub unwrap-requires : goal.unwrap-requires
unwrap-requires c = is_found c.args.names.now c.args.name.now c.find.result c.find.ensures.place c.requires.known
