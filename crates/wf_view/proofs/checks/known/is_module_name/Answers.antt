use Rattle.std.proofs.Common.{◌∙◌}
use Rattle.wf_spec.specs.Naming.{names_of}
use Rattle.wf_view.proofs.Looked.{tells}
use Rattle.wf_view.proofs.checks.known.is_module_name.Goals as goal

pub returns : goal.returns
returns c = c.is_some.ensures ∙ tells (names_of c.args.g.now.core.modules) c.args.name.now c.find.result c.find.ensures.place
