use Rattle.std.proofs.Common.{◌<◌, ◌≤◌, ◌∙◌, ◌++◌, ap, sym, subst, length, get_or, Some}
use Rattle.std.proofs.lemmas.List.{get_or_read}
use Rattle.wf_model.specs.Grammar.{Production}
use Rattle.wf_flat.specs.Table.{no_instance}
use Rattle.wf_flat.specs.Graph.{pairs_at, wiring_at, opened_at, flag_of}
use Rattle.wf_flat.specs.declared.table.Inst.{Inst}
use Rattle.wf_flat.proofs.OfInstance.{module_there, production_there, rule}
use Rattle.wf_flat.proofs.InstanceLinks.{at_marked, at_other}
use Rattle.wf_flat.proofs.graph.add_links.Goals as goal

pub add_pairs-requires-clause-in_range : goal.add_pairs-requires-clause-in_range
add_pairs-requires-clause-in_range c =
    let g = c.args.g.now.core in
    let t = c.args.run.now in
    let wf = c.start-formed.ensures.formed in
    let at = c.index-instances-k.is ∙ ap (λ l. get_or l c.args.k c.index-instances-k.result) c.instances.ensures.instances in
    let e = get_or_read t.instances c.args.k c.index-instances-k.result c.requires.there at no_instance in
    subst (λ (y : Inst). y.module.0 < length g.modules) (sym e) (module_there g t c.requires.run wf c.args.k c.requires.there)

pub add_pairs-requires-in_default-clause-in_range : goal.add_pairs-requires-in_default-clause-in_range
add_pairs-requires-in_default-clause-in_range c =
    let g = c.args.g.now.core in
    let t = c.args.run.now in
    let wf = c.start-formed.ensures.formed in
    let at = c.index-instances-k.is ∙ ap (λ l. get_or l c.args.k c.index-instances-k.result) c.instances.ensures.instances in
    let e = get_or_read t.instances c.args.k c.index-instances-k.result c.requires.there at no_instance in
    subst (λ (y : Inst). y.module.0 < length g.modules) (sym e) (module_there g t c.requires.run wf c.args.k c.requires.there)

pub production-requires : goal.production-requires
production-requires c =
    let g = c.args.g.now.core in
    let t = c.args.run.now in
    let wf = c.start-formed.ensures.formed in
    let at = c.index-instances-k.is ∙ ap (λ l. get_or l c.args.k c.index-instances-k.result) c.instances.ensures.instances in
    let e = get_or_read t.instances c.args.k c.index-instances-k.result c.requires.there at no_instance in
    production_there g t c.requires.run wf c.args.k c.requires.there c.in-Some.p (ap (λ (y : Inst). y.production) (sym e) ∙ c.in-Some.is)

pub add_wiring-requires-clause-few_entries : goal.add_wiring-requires-clause-few_entries
add_wiring-requires-clause-few_entries c =
    let g = c.args.g.now.core in
    let t = c.args.run.now in
    let wf = c.start-formed.ensures.formed in
    let at = c.index-instances-k.is ∙ ap (λ l. get_or l c.args.k c.index-instances-k.result) c.instances.ensures.instances in
    let e = get_or_read t.instances c.args.k c.index-instances-k.result c.requires.there at no_instance in
    let low = production_there g t c.requires.run wf c.args.k c.requires.there c.in-Some.p (ap (λ (y : Inst). y.production) (sym e) ∙ c.in-Some.is) in
    subst (λ (z : Production). length z.entries ≤ 64) (sym c.production.ensures.core) (rule g wf c.in-Some.p.0 low).few_entries

pub add_wiring-requires-clause-few_exits : goal.add_wiring-requires-clause-few_exits
add_wiring-requires-clause-few_exits c =
    let g = c.args.g.now.core in
    let t = c.args.run.now in
    let wf = c.start-formed.ensures.formed in
    let at = c.index-instances-k.is ∙ ap (λ l. get_or l c.args.k c.index-instances-k.result) c.instances.ensures.instances in
    let e = get_or_read t.instances c.args.k c.index-instances-k.result c.requires.there at no_instance in
    let low = production_there g t c.requires.run wf c.args.k c.requires.there c.in-Some.p (ap (λ (y : Inst). y.production) (sym e) ∙ c.in-Some.is) in
    subst (λ (z : Production). length z.exits ≤ 64) (sym c.production.ensures.core) (rule g wf c.in-Some.p.0 low).few_exits

pub returns-then-not-is_marked : goal.returns-then-not-is_marked
returns-then-not-is_marked c =
    let g = c.args.g.now.core in
    let t = c.args.run.now in
    let at = c.index-instances-k.is ∙ ap (λ l. get_or l c.args.k c.index-instances-k.result) c.instances.ensures.instances in
    let e = get_or_read t.instances c.args.k c.index-instances-k.result c.requires.there at no_instance in
    let b = ap (λ (y : Inst). flag_of c.args.expanded.now y.module.0) (sym e) ∙ (sym c.is_marked.ensures ∙ c.if-not-is_marked.true) in
    c.in_ok-add_pairs.ensures ∙ ap (λ l. c.args.links.now.items ++ l)
    (ap (λ (y : Inst). pairs_at g c.args.leaf.now y.module.0 c.args.k) e ∙ sym (at_other g c.args.expanded.now c.args.leaf.now t.instances c.args.k b))

pub returns-in_default : goal.returns-in_default
returns-in_default c =
    let g = c.args.g.now.core in
    let t = c.args.run.now in
    let at = c.index-instances-k.is ∙ ap (λ l. get_or l c.args.k c.index-instances-k.result) c.instances.ensures.instances in
    let e = get_or_read t.instances c.args.k c.index-instances-k.result c.requires.there at no_instance in
    let b = ap (λ (y : Inst). flag_of c.args.expanded.now y.module.0) (sym e) ∙ (sym c.is_marked.ensures ∙ c.if-not-is_marked.false) in
    c.in_ok-add_pairs-2.ensures ∙ ap (λ l. c.args.links.now.items ++ l)
    (ap (λ (y : Inst). pairs_at g c.args.leaf.now y.module.0 c.args.k) e
    ∙ sym (at_marked g c.args.expanded.now c.args.leaf.now t.instances c.args.k b ∙ ap (opened_at g c.args.leaf.now (get_or t.instances c.args.k no_instance) c.args.k) (ap (λ (y : Inst). y.production) (sym e) ∙ c.in_default.is)))

pub returns : goal.returns
returns c =
    let g = c.args.g.now.core in
    let t = c.args.run.now in
    let at = c.index-instances-k.is ∙ ap (λ l. get_or l c.args.k c.index-instances-k.result) c.instances.ensures.instances in
    let e = get_or_read t.instances c.args.k c.index-instances-k.result c.requires.there at no_instance in
    let b = ap (λ (y : Inst). flag_of c.args.expanded.now y.module.0) (sym e) ∙ (sym c.is_marked.ensures ∙ c.if-not-is_marked.false) in
    c.in_ok-add_wiring.ensures ∙ ap (λ l. c.args.links.now.items ++ l)
    (ap (λ (r : Production). wiring_at c.args.k c.index-instances-k.result.first_child r) c.production.ensures.core
    ∙ (ap (λ (y : Inst). opened_at g c.args.leaf.now y c.args.k (Some c.in-Some.p)) e
    ∙ sym (at_marked g c.args.expanded.now c.args.leaf.now t.instances c.args.k b ∙ ap (opened_at g c.args.leaf.now (get_or t.instances c.args.k no_instance) c.args.k) (ap (λ (y : Inst). y.production) (sym e) ∙ c.in-Some.is))))
