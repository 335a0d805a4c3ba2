use Rattle.wf_spec.specs.Naming.{names_of}
use Rattle.wf_view.proofs.Looked.{is_some_there}
use Rattle.wf_view.proofs.assemble.table.known_module.Goals as goal

pub unwrap-requires : goal.unwrap-requires
unwrap-requires c = is_some_there (names_of c.args.g.now.core.modules) c.args.name.now c.find.result c.find.ensures.place c.requires
