use Rattle.std.proofs.Common.{◌<◌, ◌≤◌, ◌^◌, ◌∙◌, ◌++◌, List, length, get_or, ap, sym, subst}
use Rattle.std.proofs.lemmas.List.{get_or_read}
use Rattle.wf_model.specs.Grammar.{Production, production_at}
use Rattle.wf_flat.specs.declared.table.Inst.{Inst}
use Rattle.wf_flat.specs.Table.{no_instance}
use Rattle.wf_flat.specs.Graph.{wiring_at, opened_at, flag_of}
use Rattle.wf_flat.specs.Numbering.{AreNumbered}
use Rattle.wf_flat.specs.Leading.{AddsLinks}
use Rattle.wf_flat.proofs.OfInstance.{production_there, rule}
use Rattle.wf_flat.proofs.InstanceLinks.{at_marked, at_other}
use Rattle.wf_flat.proofs.Placed.{closed_placed, opened_placed, wiring_numbered}
use Rattle.wf_flat.proofs.placing.place_instance.Goals as goal

pub returns-then-not-is_marked-clause-added : goal.returns-then-not-is_marked-clause-added
returns-then-not-is_marked-clause-added c =
    let g = c.args.g.now.core in
    let t = c.args.run.now in
    let k = c.args.k in
    let wf = c.start-formed.ensures.formed in
    let small = subst (λ (l : List Inst). length l < 2 ^ 32) c.instances.ensures.instances c.instances.ensures.small in
    let e = get_or_read t.instances k c.index-instances-k.result c.requires.there (c.index-instances-k.is ∙ ap (λ l. get_or l k c.index-instances-k.result) c.instances.ensures.instances) no_instance in
    let b = ap (λ (y : Inst). flag_of c.args.expanded.now y.module.0) (sym e) ∙ (sym c.is_marked.ensures ∙ c.if-not-is_marked.true) in
    closed_placed g t c.requires.run wf small c.args.leaf.now c.requires.made_for c.args.begins.now c.requires.begins k c.requires.there c.args.expanded.now c.args.words.now.items c.place_pairs.new.words.items
    (at_other g c.args.expanded.now c.args.leaf.now t.instances k b) c.place_pairs.ensures.added

pub returns-in_default-clause-added : goal.returns-in_default-clause-added
returns-in_default-clause-added c =
    let g = c.args.g.now.core in
    let t = c.args.run.now in
    let k = c.args.k in
    let wf = c.start-formed.ensures.formed in
    let small = subst (λ (l : List Inst). length l < 2 ^ 32) c.instances.ensures.instances c.instances.ensures.small in
    let e = get_or_read t.instances k c.index-instances-k.result c.requires.there (c.index-instances-k.is ∙ ap (λ l. get_or l k c.index-instances-k.result) c.instances.ensures.instances) no_instance in
    let b = ap (λ (y : Inst). flag_of c.args.expanded.now y.module.0) (sym e) ∙ (sym c.is_marked.ensures ∙ c.if-not-is_marked.false) in
    closed_placed g t c.requires.run wf small c.args.leaf.now c.requires.made_for c.args.begins.now c.requires.begins k c.requires.there c.args.expanded.now c.args.words.now.items c.place_pairs-in_default.new.words.items
    (at_marked g c.args.expanded.now c.args.leaf.now t.instances k b ∙ ap (opened_at g c.args.leaf.now (get_or t.instances k no_instance) k) (ap (λ (y : Inst). y.production) (sym e) ∙ c.in_default.is)) c.place_pairs-in_default.ensures.added

pub production-requires : goal.production-requires
production-requires c =
    let g = c.args.g.now.core in
    let t = c.args.run.now in
    let k = c.args.k in
    let wf = c.start-formed.ensures.formed in
    let small = subst (λ (l : List Inst). length l < 2 ^ 32) c.instances.ensures.instances c.instances.ensures.small in
    let e = get_or_read t.instances k c.index-instances-k.result c.requires.there (c.index-instances-k.is ∙ ap (λ l. get_or l k c.index-instances-k.result) c.instances.ensures.instances) no_instance in
    production_there g t c.requires.run wf k c.requires.there c.in-Some.p (ap (λ (y : Inst). y.production) (sym e) ∙ c.in-Some.is)

pub add_wiring-requires-clause-few_entries : goal.add_wiring-requires-clause-few_entries
add_wiring-requires-clause-few_entries c =
    let g = c.args.g.now.core in
    let t = c.args.run.now in
    let k = c.args.k in
    let wf = c.start-formed.ensures.formed in
    let small = subst (λ (l : List Inst). length l < 2 ^ 32) c.instances.ensures.instances c.instances.ensures.small in
    let e = get_or_read t.instances k c.index-instances-k.result c.requires.there (c.index-instances-k.is ∙ ap (λ l. get_or l k c.index-instances-k.result) c.instances.ensures.instances) no_instance in
    let low = production_there g t c.requires.run wf k c.requires.there c.in-Some.p (ap (λ (y : Inst). y.production) (sym e) ∙ c.in-Some.is) in
    subst (λ (z : Production). length z.entries ≤ 64) (sym c.production.ensures.core) (rule g wf c.in-Some.p.0 low).few_entries

pub add_wiring-requires-clause-few_exits : goal.add_wiring-requires-clause-few_exits
add_wiring-requires-clause-few_exits c =
    let g = c.args.g.now.core in
    let t = c.args.run.now in
    let k = c.args.k in
    let wf = c.start-formed.ensures.formed in
    let small = subst (λ (l : List Inst). length l < 2 ^ 32) c.instances.ensures.instances c.instances.ensures.small in
    let e = get_or_read t.instances k c.index-instances-k.result c.requires.there (c.index-instances-k.is ∙ ap (λ l. get_or l k c.index-instances-k.result) c.instances.ensures.instances) no_instance in
    let low = production_there g t c.requires.run wf k c.requires.there c.in-Some.p (ap (λ (y : Inst). y.production) (sym e) ∙ c.in-Some.is) in
    subst (λ (z : Production). length z.exits ≤ 64) (sym c.production.ensures.core) (rule g wf c.in-Some.p.0 low).few_exits

pub place_links-requires-clause-numbered : goal.place_links-requires-clause-numbered
place_links-requires-clause-numbered c =
    let g = c.args.g.now.core in
    let t = c.args.run.now in
    let k = c.args.k in
    let wf = c.start-formed.ensures.formed in
    let small = subst (λ (l : List Inst). length l < 2 ^ 32) c.instances.ensures.instances c.instances.ensures.small in
    let e = get_or_read t.instances k c.index-instances-k.result c.requires.there (c.index-instances-k.is ∙ ap (λ l. get_or l k c.index-instances-k.result) c.instances.ensures.instances) no_instance in
    let by = ap (λ (y : Inst). y.production) (sym e) ∙ c.in-Some.is in
    let list = c.deref.ensures.value ∙ (c.in_ok-add_wiring.ensures ∙ (ap (λ l. l ++ wiring_at k c.index-instances-k.result.first_child c.production.result.now.core) c.clear.ensures.items
    ∙ (ap (wiring_at k c.index-instances-k.result.first_child) c.production.ensures.core ∙ ap (λ (y : Inst). wiring_at k y.first_child (production_at g c.in-Some.p.0)) e))) in
    subst (AreNumbered c.args.begins.now) (sym list)
    (wiring_numbered g t c.requires.run wf small c.args.leaf.now c.requires.made_for c.args.begins.now c.requires.begins k c.requires.there c.in-Some.p by)

pub returns-clause-added : goal.returns-clause-added
returns-clause-added c =
    let g = c.args.g.now.core in
    let t = c.args.run.now in
    let k = c.args.k in
    let wf = c.start-formed.ensures.formed in
    let small = subst (λ (l : List Inst). length l < 2 ^ 32) c.instances.ensures.instances c.instances.ensures.small in
    let e = get_or_read t.instances k c.index-instances-k.result c.requires.there (c.index-instances-k.is ∙ ap (λ l. get_or l k c.index-instances-k.result) c.instances.ensures.instances) no_instance in
    let by = ap (λ (y : Inst). y.production) (sym e) ∙ c.in-Some.is in
    let list = c.deref.ensures.value ∙ (c.in_ok-add_wiring.ensures ∙ (ap (λ l. l ++ wiring_at k c.index-instances-k.result.first_child c.production.result.now.core) c.clear.ensures.items
    ∙ (ap (wiring_at k c.index-instances-k.result.first_child) c.production.ensures.core ∙ ap (λ (y : Inst). wiring_at k y.first_child (production_at g c.in-Some.p.0)) e))) in
    let b = ap (λ (y : Inst). flag_of c.args.expanded.now y.module.0) (sym e) ∙ (sym c.is_marked.ensures ∙ c.if-not-is_marked.false) in
    let words = c.args.words.now.items in
    let words' = c.place_links.new.words.items in
    opened_placed g t c.requires.run wf small c.args.leaf.now c.requires.made_for c.args.begins.now c.requires.begins k c.requires.there c.args.expanded.now words words' c.in-Some.p by
    (at_marked g c.args.expanded.now c.args.leaf.now t.instances k b ∙ ap (opened_at g c.args.leaf.now (get_or t.instances k no_instance) k) by)
    (subst (λ l. AddsLinks l c.args.begins.now words words') list c.place_links.ensures.added)
