use Rattle.std.proofs.Common.{◌≡◌, ◌++◌, ◌∷◌, [], None, ap, sym, subst, ◌∙◌}
use Rattle.wf_model.specs.declared.event.Event.{Event}
use Rattle.wf_model.specs.declared.event.Event.TheVariants.{Start, Expand}
use Rattle.wf_model.specs.Faults.{fault_of}
use Rattle.wf_model.specs.WellFormed.{IsWellFormed}
use Rattle.wf_spec.specs.Held.{HeldGrammar}
use Rattle.label_model.specs.RunLabels.{labelled_by}
use Rattle.wf_run.specs.Runs.{node_at}
use Rattle.wf_labeller.specs.Groups.{root_bits, edges_bits, bits_of_items}
use Rattle.wf_labeller.proofs.MadeBits.{root_made}
use Rattle.wf_labeller.proofs.Expansions.{made_bits}
use Rattle.wf_labeller.proofs.labelled_run.maker_of.Goals as goal

pub returns-in-Start-clause-labels : goal.returns-in-Start-clause-labels
returns-in-Start-clause-labels c events run taken =
    let g = c.args.run.now.grammar.core in
    subst (λ (e : Event). root_bits g ≡ bits_of_items (labelled_by g (events ++ e ∷ []) e)) (sym c.in-Start.is) (root_made g (events ++ Start c.in-Start.name ∷ []) c.in-Start.name)

pub returns-in_ok-instance-in-Expand-clause-labels : goal.returns-in_ok-instance-in-Expand-clause-labels
returns-in_ok-instance-in-Expand-clause-labels c events run taken =
    let r = c.args.run.now in
    let event : c.args.event.now ≡ Expand c.bytes.result.now c.in-Expand.production c.items.result.now =
    c.in-Expand.is ∙ (ap (λ z. Expand z c.in-Expand.production c.in-Expand.names) (sym c.bytes.ensures) ∙ ap (λ z. Expand c.bytes.result.now c.in-Expand.production z) (sym c.items.ensures)) in
    let wf = subst (λ (h : HeldGrammar). IsWellFormed h.core) c.grammar.ensures.grammar c.start-formed.ensures.formed in
    let k = c.in_ok-instance-in-Expand.instance.0 in
    let p = c.in_ok-instance-in-Expand.production.0 in
    subst (λ (e : Event). edges_bits r.grammar.core p (node_at r k).bits (node_at r k).chain ≡ bits_of_items (labelled_by r.grammar.core (events ++ e ∷ []) e)) (sym event)
    (made_bits r events run c.bytes.result.now c.in-Expand.production c.items.result.now (subst (λ (e : Event). fault_of r.grammar.core r.most events e ≡ None) event taken)
    k (c.in_ok-instance-in-Expand.ensures.place events run) wf p c.in_ok-instance-in-Expand.ensures.production.0)
