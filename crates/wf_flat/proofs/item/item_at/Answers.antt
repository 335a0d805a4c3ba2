use Rattle.std.proofs.Common.{◌≤◌, ◌++◌, [], length, get_or, ap, sym, subst, ◌∙◌}
use Rattle.wf_model.specs.Grammar.{Module}
use Rattle.wf_model.specs.Lists.{IsIn}
use Rattle.wf_model.specs.Items.{dotted, input_items, output_items, items}
use Rattle.wf_flat.specs.declared.table.Inst.{Inst}
use Rattle.wf_flat.specs.Table.{names_in, events_of}
use Rattle.wf_flat.specs.Item.{named_item}
use Rattle.wf_flat.proofs.Named.{inst_read, module_low, module_read, module_formed, root_found, root_none, if_some}
use Rattle.wf_flat.proofs.item.item_at.Goals as goal

pub bounds-modules-x : goal.bounds-modules-x
bounds-modules-x c =
    let j = ap (λ (z : Inst). z.module.0) (c.index-instances-k.is ∙ inst_read c.args.g.now.core c.args.run.now c.requires.run c.modules.ensures.formed c.args.k c.requires.there c.instances.result.now c.index-instances-k.result c.instances.ensures.instances) in
    module_low c.args.g.now.core c.args.run.now c.requires.run c.modules.ensures.formed c.args.k c.requires.there c.modules.result.now _ c.modules.ensures.modules j

pub root_item-requires-clause-few_inputs : goal.root_item-requires-clause-few_inputs
root_item-requires-clause-few_inputs c =
    let wf = c.modules.ensures.formed in
    let j = ap (λ (z : Inst). z.module.0) (c.index-instances-k.is ∙ inst_read c.args.g.now.core c.args.run.now c.requires.run wf c.args.k c.requires.there c.instances.result.now c.index-instances-k.result c.instances.ensures.instances) in
    let m = module_read c.args.g.now.core c.args.run.now c.requires.run wf c.args.k c.requires.there c.modules.result.now _ c.index-modules-x.result c.modules.ensures.modules j c.index-modules-x.is in
    subst (λ (z : Module). length z.inputs ≤ 64) (sym m) (module_formed c.args.g.now.core c.args.run.now c.requires.run wf c.args.k c.requires.there).few_inputs

pub root_item-requires-clause-few_outputs : goal.root_item-requires-clause-few_outputs
root_item-requires-clause-few_outputs c =
    let wf = c.modules.ensures.formed in
    let j = ap (λ (z : Inst). z.module.0) (c.index-instances-k.is ∙ inst_read c.args.g.now.core c.args.run.now c.requires.run wf c.args.k c.requires.there c.instances.result.now c.index-instances-k.result c.instances.ensures.instances) in
    let m = module_read c.args.g.now.core c.args.run.now c.requires.run wf c.args.k c.requires.there c.modules.result.now _ c.index-modules-x.result c.modules.ensures.modules j c.index-modules-x.is in
    subst (λ (z : Module). length z.outputs ≤ 64) (sym m) (module_formed c.args.g.now.core c.args.run.now c.requires.run wf c.args.k c.requires.there).few_outputs

pub returns-in-None-clause-found : goal.returns-in-None-clause-found
returns-in-None-clause-found c =
    let g = c.args.g.now.core in
    let t = c.args.run.now in
    let run = c.requires.run in
    let k = c.args.k in
    let there = c.requires.there in
    let wf = c.modules.ensures.formed in
    let names = names_in t.instances in
    let own = get_or names k [] in
    let x = c.index-instances-k.is ∙ inst_read g t run wf k there c.instances.result.now c.index-instances-k.result c.instances.ensures.instances in
    let m = module_read g t run wf k there c.modules.result.now _ c.index-modules-x.result c.modules.ensures.modules (ap (λ (z : Inst). z.module.0) x) c.index-modules-x.is in
    let root = ap (λ (z : Inst). z.parent) (sym x) ∙ c.in-None.is in
    if_some c.root_item.result _ (λ i. IsIn (named_item names (dotted own c.args.port.now) i) (items g g.start (events_of t)))
    (λ i h. root_found g t run wf k there root (named_item names (dotted own c.args.port.now) i)
    (subst (λ (z : Module). IsIn (named_item names (dotted own c.args.port.now) i) (input_items own 0 z.inputs ++ output_items own 0 z.outputs)) m (h names)))
    c.root_item.ensures.found

pub returns-in-None-clause-none : goal.returns-in-None-clause-none
returns-in-None-clause-none c =
    let g = c.args.g.now.core in
    let t = c.args.run.now in
    let run = c.requires.run in
    let k = c.args.k in
    let there = c.requires.there in
    let wf = c.modules.ensures.formed in
    let x = c.index-instances-k.is ∙ inst_read g t run wf k there c.instances.result.now c.index-instances-k.result c.instances.ensures.instances in
    let m = module_read g t run wf k there c.modules.result.now _ c.index-modules-x.result c.modules.ensures.modules (ap (λ (z : Inst). z.module.0) x) c.index-modules-x.is in
    let root = ap (λ (z : Inst). z.parent) (sym x) ∙ c.in-None.is in
    λ z i h e. root_none g t run wf k there root c.args.port.now i (λ n. c.root_item.ensures.none z (subst (λ (q : Module). IsIn c.args.port.now (q.inputs ++ q.outputs)) (sym m) n)) h e
