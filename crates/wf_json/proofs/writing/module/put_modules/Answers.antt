use Rattle.std.proofs.Common.{rules, [], get_or, refl}
use Rattle.wf_model.specs.Grammar.{Module}
use Rattle.wf_json.specs.Canonical.{module_text}
use Rattle.wf_json.proofs.Joined.{list_taken}
use Rattle.wf_json.proofs.writing.module.put_modules.Goals as goal

pub returns : goal.returns
returns g c =
    let none : Module = record { name = []; inputs = []; outputs = [] } in
    list_taken _ _ _ module_text c.args.modules.now none _ _ refl (c.put_list.ensures (λ k. module_text (get_or c.args.modules.now k none)) (λ v k r w below met. search rules))
