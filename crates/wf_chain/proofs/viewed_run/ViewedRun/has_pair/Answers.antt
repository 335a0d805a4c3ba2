use Rattle.std.proofs.Common.{◌≡◌, ◌<◌, ◌∙◌, List, ap, sym, subst, length, get_or}
use Rattle.std.proofs.lemmas.List.{get_or_read}
use Rattle.wf_model.specs.Meaning.{pairs_of}
use Rattle.wf_flat.specs.declared.table.Inst.{Inst}
use Rattle.wf_flat.specs.Table.{no_instance}
use Rattle.wf_flat.proofs.OfInstance.{module_there}
use Rattle.wf_chain.specs.ViewedRuns.{ViewedRunValue, IsViewedRun, grammar_in}
use Rattle.wf_chain.proofs.viewed_run.ViewedRun.has_pair.Goals as goal

pub has_pair-requires-clause-there : goal.has_pair-requires-clause-there
has_pair-requires-clause-there c =
    let v = c.args.self.now in
    let kept = subst (λ (w : ViewedRunValue). IsViewedRun w c.self.inside.flags.items) c.self.view_is c.self.invariant in
    let k = c.args.instance in
    let r = c.index-instances-instance.result in
    let all = c.instances.ensures.instances ∙ ap (λ (w : ViewedRunValue). w.run.instances) c.self.view_is in
    let read = sym c.index-instances-instance.is ∙ get_or_read v.run.instances k r c.requires.there (c.index-instances-instance.is ∙ ap (λ (l : List Inst). get_or l k r) all) no_instance in
    let deps = c.deps.ensures ∙ (c.full.ensures.full ∙ ap (λ (w : ViewedRunValue). w.viewed.full) c.self.view_is) in
    let places : length c.deps.result.now ≡ length (grammar_in v).modules = ap length deps ∙ kept.safe.full.places in
    subst (λ n. (get_or c.instances.result.now k r).module.0 < n) (sym places)
    (subst (λ (x : Inst). x.module.0 < length (grammar_in v).modules) (sym read) (module_there (grammar_in v) v.run kept.run kept.safe.accepted.formed k c.requires.there))

pub returns : goal.returns
returns c =
    let v = c.args.self.now in
    let k = c.args.instance in
    let r = c.index-instances-instance.result in
    let all = c.instances.ensures.instances ∙ ap (λ (w : ViewedRunValue). w.run.instances) c.self.view_is in
    let read = sym c.index-instances-instance.is ∙ get_or_read v.run.instances k r c.requires.there (c.index-instances-instance.is ∙ ap (λ (l : List Inst). get_or l k r) all) no_instance in
    let deps = c.deps.ensures ∙ (c.full.ensures.full ∙ ap (λ (w : ViewedRunValue). w.viewed.full) c.self.view_is) in
    c.has_pair.ensures ∙ (λ z. pairs_of (deps z) (read z).module.0 c.args.input.0 c.args.output.0)
