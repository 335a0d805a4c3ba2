use Rattle.std.proofs.Common.{◌≡◌, ◌+◌, ◌<◌, ◌^◌, ◌∙◌, ap, sym, subst, arith, length, get_or, List, ℕ}
use Rattle.std.proofs.lemmas.List.{get_or_read}
use Rattle.wf_model.specs.Lists.{IsAt}
use Rattle.wf_model.specs.Grammar.{Grammar, Production, production_at}
use Rattle.wf_model.specs.Meaning.{inner_of}
use Rattle.wf_spec.specs.Held.{HeldGrammar}
use Rattle.wf_flat.specs.declared.table.Inst.{Inst}
use Rattle.wf_flat.specs.Table.{no_instance}
use Rattle.wf_chain.specs.ViewedRuns.{ViewedRunValue, IsViewedRun, grammar_in}
use Rattle.wf_chain.specs.Steps.{side_inners, IsSeenPort, LeadsInward}
use Rattle.wf_chain.proofs.Opening.{head_is}
use Rattle.wf_chain.proofs.Inward.{side_wide, inner_there, inner_seen, inner_behind, inner_led}
use Rattle.wf_chain.proofs.viewed_run.ViewedRun.inner_port.Goals as goal

-- the first child of the instance that was read
first_read : (v : ViewedRunValue) (all : List Inst) (k : ℕ) (r : Inst) → all ≡ v.run.instances → k < length v.run.instances → r ≡ get_or all k r → (get_or v.run.instances k no_instance).first_child ≡ (get_or all k r).first_child
first_read v all k r e h q = sym (ap (λ (z : Inst). z.first_child) (sym q ∙ get_or_read v.run.instances k r h (q ∙ ap (λ l. get_or l k r) e) no_instance))

pub production-requires : goal.production-requires
production-requires c =
    let v = c.args.self.now in
    let kept = subst (λ (w : ViewedRunValue). IsViewedRun w c.self.inside.flags.items) c.self.view_is c.self.invariant in
    let same = ap (λ (h : HeldGrammar). h.core) c.grammar.ensures.grammar ∙ ap grammar_in c.self.view_is in
    subst (λ (h : Grammar). c.args.production.0 < length h.productions) (sym same) (head_is (grammar_in v) v.run kept.run c.args.port.instance c.requires.port.there c.args.production c.requires.by).0

pub inner_at-inner-requires : goal.inner_at-inner-requires
inner_at-inner-requires c =
    let v = c.args.self.now in
    let kept = subst (λ (w : ViewedRunValue). IsViewedRun w c.self.inside.flags.items) c.self.view_is c.self.invariant in
    let same = ap (λ (h : HeldGrammar). h.core) c.grammar.ensures.grammar ∙ ap grammar_in c.self.view_is in
    let rule = c.production.ensures.core ∙ ap (λ (h : Grammar). production_at h c.args.production.0) same in
    subst (λ (r : Production). c.args.port.port.0 < length (side_inners c.args.port.side r)) (sym rule)
    (side_wide (grammar_in v) v.run kept.run kept.safe.accepted.formed c.args.port.instance c.requires.port.there c.args.production c.requires.by c.args.port.side c.args.port.port.0 c.requires.port.in_range)

pub overflow_add-result : goal.overflow_add-result
overflow_add-result c =
    let v = c.args.self.now in
    let kept = subst (λ (w : ViewedRunValue). IsViewedRun w c.self.inside.flags.items) c.self.view_is c.self.invariant in
    let same = ap (λ (h : HeldGrammar). h.core) c.grammar.ensures.grammar ∙ ap grammar_in c.self.view_is in
    let rule = c.production.ensures.core ∙ ap (λ (h : Grammar). production_at h c.args.production.0) same in
    let at = subst (λ (r : Production). IsAt (inner_of c.inner_at-inner.result) c.args.port.port.0 (side_inners c.args.port.side r)) rule c.inner_at-inner.ensures in
    let all = c.instances.ensures.instances ∙ ap (λ (w : ViewedRunValue). w.run.instances) c.self.view_is in
    let first = first_read v c.instances.result.now c.args.port.instance c.index-instances-port.result all c.requires.port.there c.index-instances-port.is in
    let in_range = (head_is (grammar_in v) v.run kept.run c.args.port.instance c.requires.port.there c.args.production c.requires.by).0 in
    let low = inner_there v kept.run kept.safe.accepted.formed c.args.port c.requires.port c.args.production in_range c.requires.by c.requires.opened (inner_of c.inner_at-inner.result) at in
    let small = subst (λ (l : List Inst). length l < 2 ^ 32) all c.instances.ensures.small in
    omega arith

pub returns-clause-port : goal.returns-clause-port
returns-clause-port c =
    let v = c.args.self.now in
    let kept = subst (λ (w : ViewedRunValue). IsViewedRun w c.self.inside.flags.items) c.self.view_is c.self.invariant in
    let same = ap (λ (h : HeldGrammar). h.core) c.grammar.ensures.grammar ∙ ap grammar_in c.self.view_is in
    let rule = c.production.ensures.core ∙ ap (λ (h : Grammar). production_at h c.args.production.0) same in
    let at = subst (λ (r : Production). IsAt (inner_of c.inner_at-inner.result) c.args.port.port.0 (side_inners c.args.port.side r)) rule c.inner_at-inner.ensures in
    let all = c.instances.ensures.instances ∙ ap (λ (w : ViewedRunValue). w.run.instances) c.self.view_is in
    let first = first_read v c.instances.result.now c.args.port.instance c.index-instances-port.result all c.requires.port.there c.index-instances-port.is in
    let in_range = (head_is (grammar_in v) v.run kept.run c.args.port.instance c.requires.port.there c.args.production c.requires.by).0 in
    subst (λ n. IsSeenPort v (record { instance = n + c.inner_at-inner.result.pos.0; side = c.args.port.side; port = c.inner_at-inner.result.port })) first
    (inner_seen v kept.run kept.safe.accepted.formed c.args.port c.requires.port c.args.production in_range c.requires.by c.requires.opened (inner_of c.inner_at-inner.result) at)

pub returns-clause-inward : goal.returns-clause-inward
returns-clause-inward c =
    let v = c.args.self.now in
    let kept = subst (λ (w : ViewedRunValue). IsViewedRun w c.self.inside.flags.items) c.self.view_is c.self.invariant in
    let same = ap (λ (h : HeldGrammar). h.core) c.grammar.ensures.grammar ∙ ap grammar_in c.self.view_is in
    let rule = c.production.ensures.core ∙ ap (λ (h : Grammar). production_at h c.args.production.0) same in
    let at = subst (λ (r : Production). IsAt (inner_of c.inner_at-inner.result) c.args.port.port.0 (side_inners c.args.port.side r)) rule c.inner_at-inner.ensures in
    let all = c.instances.ensures.instances ∙ ap (λ (w : ViewedRunValue). w.run.instances) c.self.view_is in
    let first = first_read v c.instances.result.now c.args.port.instance c.index-instances-port.result all c.requires.port.there c.index-instances-port.is in
    let in_range = (head_is (grammar_in v) v.run kept.run c.args.port.instance c.requires.port.there c.args.production c.requires.by).0 in
    subst (λ n. LeadsInward v c.args.port.side c.args.port (record { instance = n + c.inner_at-inner.result.pos.0; side = c.args.port.side; port = c.inner_at-inner.result.port })) first
    (inner_led v kept.run kept.safe.accepted.formed c.args.port c.requires.port c.args.production in_range c.requires.by c.requires.opened (inner_of c.inner_at-inner.result) at)

pub returns-clause-later : goal.returns-clause-later
returns-clause-later c =
    let v = c.args.self.now in
    let kept = subst (λ (w : ViewedRunValue). IsViewedRun w c.self.inside.flags.items) c.self.view_is c.self.invariant in
    let same = ap (λ (h : HeldGrammar). h.core) c.grammar.ensures.grammar ∙ ap grammar_in c.self.view_is in
    let rule = c.production.ensures.core ∙ ap (λ (h : Grammar). production_at h c.args.production.0) same in
    let at = subst (λ (r : Production). IsAt (inner_of c.inner_at-inner.result) c.args.port.port.0 (side_inners c.args.port.side r)) rule c.inner_at-inner.ensures in
    let all = c.instances.ensures.instances ∙ ap (λ (w : ViewedRunValue). w.run.instances) c.self.view_is in
    let first = first_read v c.instances.result.now c.args.port.instance c.index-instances-port.result all c.requires.port.there c.index-instances-port.is in
    let in_range = (head_is (grammar_in v) v.run kept.run c.args.port.instance c.requires.port.there c.args.production c.requires.by).0 in
    subst (λ n. c.args.port.instance < n + c.inner_at-inner.result.pos.0) first
    (inner_behind v kept.run kept.safe.accepted.formed c.args.port c.requires.port c.args.production in_range c.requires.by c.requires.opened (inner_of c.inner_at-inner.result) at)
