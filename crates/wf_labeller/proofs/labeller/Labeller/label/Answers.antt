use Rattle.std.proofs.Common.{◌≡◌, ◌⊎◌, List, Some, None, OnOk, IfErr, ap, sym, subst, ◌∙◌}
use Rattle.wf_model.specs.declared.event.Event.{Event}
use Rattle.wf_model.specs.declared.event.Event.TheVariants.{Expand}
use Rattle.wf_model.specs.declared.event.RunFault.TheVariants.{NoMemory}
use Rattle.wf_model.specs.Faults.{fault_of}
use Rattle.wf_run.specs.Runs.{RunSeen, IsRunOf}
use Rattle.wf_labeller.proofs.labeller.Labeller.label.Goals as goal

pub returns-in-Expand-clause-extends : goal.returns-in-Expand-clause-extends
returns-in-Expand-clause-extends g c =
    let event : c.args.event.now ≡ Expand c.bytes-in-Expand.result.now c.in-Expand.production c.items.result.now =
    c.in-Expand.is ∙ (ap (λ z. Expand z c.in-Expand.production c.in-Expand.names) (sym c.bytes-in-Expand.ensures) ∙ ap (λ z. Expand c.bytes-in-Expand.result.now c.in-Expand.production z) (sym c.items.ensures)) in
    let P : RunSeen → Event → Type 0 = λ r e. OnOk c.expand.result ((events : List Event) → IsRunOf r events → fault_of r.grammar.core r.most events e ≡ None) in
    subst (λ r. P r c.args.event.now) c.self.view_is (subst (P _) (sym event) c.expand.ensures.extends)

pub returns-in-Expand-clause-refused : goal.returns-in-Expand-clause-refused
returns-in-Expand-clause-refused g c =
    let event : c.args.event.now ≡ Expand c.bytes-in-Expand.result.now c.in-Expand.production c.items.result.now =
    c.in-Expand.is ∙ (ap (λ z. Expand z c.in-Expand.production c.in-Expand.names) (sym c.bytes-in-Expand.ensures) ∙ ap (λ z. Expand c.bytes-in-Expand.result.now c.in-Expand.production z) (sym c.items.ensures)) in
    let P : RunSeen → Event → Type 0 = λ r e. IfErr c.expand.result (λ f. (f ≡ NoMemory) ⊎ ((events : List Event) → IsRunOf r events → fault_of r.grammar.core r.most events e ≡ Some f)) in
    subst (λ r. P r c.args.event.now) c.self.view_is (subst (P _) (sym event) c.expand.ensures.refused)
