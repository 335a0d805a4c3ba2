use Rattle.std.proofs.Common.{◌∙◌, ap, subst}
use Rattle.std.specs.Prelude.{position, bytes_eq}
use Rattle.wf_flat.specs.Table.{names_in}
use Rattle.wf_chain.specs.ViewedRuns.{ViewedRunValue, IsViewedRun, grammar_in}
use Rattle.wf_chain.proofs.FoundInstances.{found_there, found_instance, none_found}
use Rattle.wf_chain.proofs.viewed_run.ViewedRun.find_instance.Goals as goal

pub returns-clause-there : goal.returns-clause-there
returns-clause-there c =
    let v = c.args.self.now in
    let kept = subst (λ (w : ViewedRunValue). IsViewedRun w c.self.inside.flags.items) c.self.view_is c.self.invariant in
    found_there (grammar_in v) v.run kept.run c.args.name.now c.find_near.result (c.find_near.ensures.place ∙ ap (λ (w : ViewedRunValue). position (bytes_eq c.args.name.now) (names_in w.run.instances)) c.self.view_is)

pub returns-clause-named : goal.returns-clause-named
returns-clause-named c =
    let v = c.args.self.now in
    let kept = subst (λ (w : ViewedRunValue). IsViewedRun w c.self.inside.flags.items) c.self.view_is c.self.invariant in
    found_instance (grammar_in v) v.run kept.run c.args.name.now c.find_near.result (c.find_near.ensures.place ∙ ap (λ (w : ViewedRunValue). position (bytes_eq c.args.name.now) (names_in w.run.instances)) c.self.view_is)

pub returns-clause-none : goal.returns-clause-none
returns-clause-none c =
    let v = c.args.self.now in
    let kept = subst (λ (w : ViewedRunValue). IsViewedRun w c.self.inside.flags.items) c.self.view_is c.self.invariant in
    none_found (grammar_in v) v.run kept.run c.args.name.now c.find_near.result (c.find_near.ensures.place ∙ ap (λ (w : ViewedRunValue). position (bytes_eq c.args.name.now) (names_in w.run.instances)) c.self.view_is)
