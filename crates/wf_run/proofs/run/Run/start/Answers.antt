use Rattle.std.proofs.Common.{◌++◌, ◌∷◌, [], sym, subst, ◌∙◌}
use Rattle.wf_model.specs.WellFormed.{IsWellFormed}
use Rattle.wf_model.specs.declared.event.Event.TheVariants.{Start}
use Rattle.wf_run.specs.Runs.{RunSeen, IsRunOf, GoesOn}
use Rattle.wf_run.proofs.Begun.{begun_run, begun_on, begun_view, begun_kept}
use Rattle.wf_run.proofs.run.Run.start.Goals as goal

pub invariant_of-self-2 : goal.invariant_of-self-2
invariant_of-self-2 c =
    let i = c.self.inside in
    let p = c.in_ok-plant.ensures in
    begun_kept i.linear.grammar.now i.most i.names _ i.nodes.items _ i.expands _ c.args.name.now p.names p.instances c.root-root.ensures.node
    c.root-root.ensures.formed c.root-root.ensures.filled c.self.invariant c.args.self.now c.self.view_is
    (λ events run. sym (c.fault_of_start.ensures events run) ∙ c.in_default.is)

pub returns-clause-taken : goal.returns-clause-taken
returns-clause-taken c events run =
    let i = c.self.inside in
    let r = c.args.self.now in
    let p = c.in_ok-plant.ensures in
    let new = begun_view i.linear.grammar.now i.most i.names _ i.nodes.items _ i.expands _ c.args.name.now p.names p.instances c.root-root.ensures.node r c.self.view_is in
    let formed = subst (λ (z : RunSeen). IsWellFormed z.grammar.core) c.self.view_is c.root-root.ensures.formed in
    subst (λ z. IsRunOf z (events ++ Start c.args.name.now ∷ [])) (sym new) (begun_run r c.args.name.now formed events run (sym (c.fault_of_start.ensures events run) ∙ c.in_default.is))

pub returns-clause-goes_on : goal.returns-clause-goes_on
returns-clause-goes_on c =
    let i = c.self.inside in
    let r = c.args.self.now in
    let p = c.in_ok-plant.ensures in
    let new = begun_view i.linear.grammar.now i.most i.names _ i.nodes.items _ i.expands _ c.args.name.now p.names p.instances c.root-root.ensures.node r c.self.view_is in
    let formed = subst (λ (z : RunSeen). IsWellFormed z.grammar.core) c.self.view_is c.root-root.ensures.formed in
    let events = c.self.invariant.events in
    let run = subst (λ z. IsRunOf z events) c.self.view_is c.self.invariant.run in
    subst (GoesOn r) (sym new) (begun_on r c.args.name.now formed events run (sym (c.fault_of_start.ensures events run) ∙ c.in_default.is))
