use Rattle.std.proofs.Common.{ap, sym, ◌∙◌, arith}
use Rattle.std.specs.Prelude.{is_some, option_map}
use Rattle.std.proofs.lemmas.Grind.{common_steps}
use Rattle.wf_run.specs.declared.node.NodeNo.{NodeNo}
use Rattle.wf_run.proofs.NamedInstances.{unknown, known, its_module, its_expansion}
use Rattle.wf_run.proofs.run.Run.found.Goals as goal

pub returns-in_default-clause-found : goal.returns-in_default-clause-found
returns-in_default-clause-found c events name run place = unknown c.args.self.now events run name (sym place ∙ ap (option_map (λ (n : NodeNo). n.0)) c.in_default.is)

pub returns-clause-found : goal.returns-clause-found
returns-clause-found c events name run place =
    let r = c.args.self.now in
    let at = sym place ∙ ap (option_map (λ (n : NodeNo). n.0)) c.in-Some.is in
    (known r events run name _ at, its_module r events run name _ at ∙ sym c.module.ensures, its_expansion r events run name _ at ∙ (ap is_some (sym c.children.ensures) ∙ (grind (arith, common_steps) ∙ sym c.is_some.ensures)))
