use Rattle.std.proofs.Common.{◌<◌, sym, ◌∙◌, ap, subst, true≢false, List, length, get_or}
use Rattle.std.proofs.lemmas.List.{get_or_read}
use Rattle.wf_flat.specs.declared.table.Inst.{Inst}
use Rattle.wf_flat.specs.Table.{no_instance}
use Rattle.wf_chain.specs.ViewedRuns.{ViewedRunValue, IsViewedRun, grammar_in, view_in}
use Rattle.wf_chain.proofs.Opening.{open_gives, open_told}
use Rattle.wf_chain.proofs.viewed_run.ViewedRun.opened_by.Goals as goal

pub bounds-instances-k : goal.bounds-instances-k
bounds-instances-k c =
    subst (λ (l : List Inst). c.args.k < length l) (sym (c.instances.ensures.instances ∙ ap (λ (v : ViewedRunValue). v.run.instances) c.self.view_is)) c.requires

pub returns-then-not-opens : goal.returns-then-not-opens
returns-then-not-opens c =
    let v = c.args.self.now in
    let kept = subst (λ (w : ViewedRunValue). IsViewedRun w c.self.inside.flags.items) c.self.view_is c.self.invariant in
    λ h. true≢false (sym (open_gives (grammar_in v) (view_in v) v.run kept.run c.args.k c.requires h) ∙ (sym c.opens.ensures ∙ c.if-not-opens.true))

pub returns : goal.returns
returns c =
    let v = c.args.self.now in
    let kept = subst (λ (w : ViewedRunValue). IsViewedRun w c.self.inside.flags.items) c.self.view_is c.self.invariant in
    let y = c.index-instances-k.result in
    let same = c.instances.ensures.instances ∙ ap (λ (w : ViewedRunValue). w.run.instances) c.self.view_is in
    let read = get_or_read v.run.instances c.args.k y c.requires (c.index-instances-k.is ∙ ap (λ (l : List Inst). get_or l c.args.k y) same) no_instance in
    open_told (grammar_in v) (view_in v) v.run kept.run c.args.k c.requires (sym c.opens.ensures ∙ c.if-not-opens.false) (get_or c.instances.result.now c.args.k y).production (ap (λ (z : Inst). z.production) (sym (sym c.index-instances-k.is ∙ read)))
