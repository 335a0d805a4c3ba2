use Rattle.std.proofs.Common.{◌≡◌, ◌<◌, ◌≤◌, length, ap, sym, subst, ◌∙◌, arith}
use Rattle.std.specs.Prelude.{position, bytes_eq, Some, None}
use Rattle.wf_model.specs.Grammar.{Module}
use Rattle.wf_flat.specs.declared.table.Inst.{Inst}
use Rattle.wf_flat.proofs.Named.{inst_read, module_low, module_read, module_formed, parent_at, parent_there, no_output, answer_found, answer_within, answer_none, starts_low, ends_high, has_room, in_productions}
use Rattle.wf_flat.proofs.item.inner_item.Goals as goal

pub bounds-modules-module : goal.bounds-modules-module
bounds-modules-module c =
    let j = ap (λ (z : Inst). z.module.0) (inst_read c.args.g.now.core c.args.run.now c.requires.run c.modules.ensures.formed c.args.k c.requires.there c.instances-all.result.now c.index-all-k.result c.instances-all.ensures.instances) in
    module_low c.args.g.now.core c.args.run.now c.requires.run c.modules.ensures.formed c.args.k c.requires.there c.modules.result.now _ c.modules.ensures.modules j

pub port_of-requires : goal.port_of-requires
port_of-requires c =
    let wf = c.modules.ensures.formed in
    let j = ap (λ (z : Inst). z.module.0) (inst_read c.args.g.now.core c.args.run.now c.requires.run wf c.args.k c.requires.there c.instances-all.result.now c.index-all-k.result c.instances-all.ensures.instances) in
    let m = module_read c.args.g.now.core c.args.run.now c.requires.run wf c.args.k c.requires.there c.modules.result.now _ c.index-modules-module.result c.modules.ensures.modules j c.index-modules-module.is in
    record { few = subst (λ l. length l ≤ 64) (sym (c.outputs.ensures ∙ ap (λ (z : Module). z.outputs) m)) (module_formed c.args.g.now.core c.args.run.now c.requires.run wf c.args.k c.requires.there).few_outputs }

pub returns-in_default-clause-none : goal.returns-in_default-clause-none
returns-in_default-clause-none c =
    let wf = c.modules.ensures.formed in
    let j = ap (λ (z : Inst). z.module.0) (inst_read c.args.g.now.core c.args.run.now c.requires.run wf c.args.k c.requires.there c.instances-all.result.now c.index-all-k.result c.instances-all.ensures.instances) in
    let m = module_read c.args.g.now.core c.args.run.now c.requires.run wf c.args.k c.requires.there c.modules.result.now _ c.index-modules-module.result c.modules.ensures.modules j c.index-modules-module.is in
    let outs = c.outputs.ensures ∙ ap (λ (z : Module). z.outputs) m in
    let parent = parent_at c.args.g.now.core c.args.run.now c.requires.run wf c.args.k c.requires.there c.args.parent c.requires.parent in
    λ z i h e.
    no_output c.args.g.now.core c.args.run.now c.requires.run wf c.args.k c.requires.there c.args.parent c.requires.parent parent.production parent.expanded c.args.port.now i
    (ap (position (bytes_eq c.args.port.now)) (sym outs) ∙ sym c.in_default.ensures.place) h e

pub bounds-all-parent : goal.bounds-all-parent
bounds-all-parent c =
    subst (λ l. c.args.parent < length l) (sym c.instances-all.ensures.instances)
    (parent_there c.args.g.now.core c.args.run.now c.requires.run c.modules.ensures.formed c.args.k c.requires.there c.args.parent c.requires.parent)

pub returns-in_default-production-clause-none : goal.returns-in_default-production-clause-none
returns-in_default-production-clause-none c =
    let g = c.args.g.now.core in
    let t = c.args.run.now in
    let run = c.requires.run in
    let wf = c.modules.ensures.formed in
    let k = c.args.k in
    let there = c.requires.there in
    let p = c.args.parent in
    let child = c.requires.parent in
    let y = c.index-all-parent.result in
    let read = c.index-all-parent.is ∙ inst_read g t run wf p (parent_there g t run wf k there p child) c.instances-all.result.now y c.instances-all.ensures.instances in
    let parent = parent_at g t run wf k there p child in
    let none : None ≡ Some parent.production = sym c.in_default-production.is ∙ (ap (λ (z : Inst). z.production) read ∙ parent.expanded) in
    absurd (cc)

pub edge_item-requires-clause-in_range : goal.edge_item-requires-clause-in_range
edge_item-requires-clause-in_range c =
    let g = c.args.g.now.core in
    let t = c.args.run.now in
    let run = c.requires.run in
    let wf = c.modules.ensures.formed in
    let k = c.args.k in
    let there = c.requires.there in
    let p = c.args.parent in
    let child = c.requires.parent in
    let y = c.index-all-parent.result in
    let read = c.index-all-parent.is ∙ inst_read g t run wf p (parent_there g t run wf k there p child) c.instances-all.result.now y c.instances-all.ensures.instances in
    let j = ap (λ (z : Inst). z.module.0) (inst_read g t run wf k there c.instances-all.result.now c.index-all-k.result c.instances-all.ensures.instances) in
    let m = module_read g t run wf k there c.modules.result.now _ c.index-modules-module.result c.modules.ensures.modules j c.index-modules-module.is in
    let named = c.in-Some.ensures.place ∙ ap (position (bytes_eq c.args.port.now)) (c.outputs.ensures ∙ ap (λ (z : Module). z.outputs) m) in
    let q = c.in-Some-production.production in
    let o = c.in-Some.o in
    in_productions g t run wf k there p child y read q c.in-Some-production.is o c.args.port.now named None

pub edge_item-requires-clause-first : goal.edge_item-requires-clause-first
edge_item-requires-clause-first c =
    let g = c.args.g.now.core in
    let t = c.args.run.now in
    let run = c.requires.run in
    let wf = c.modules.ensures.formed in
    let k = c.args.k in
    let there = c.requires.there in
    let p = c.args.parent in
    let child = c.requires.parent in
    let y = c.index-all-parent.result in
    let read = c.index-all-parent.is ∙ inst_read g t run wf p (parent_there g t run wf k there p child) c.instances-all.result.now y c.instances-all.ensures.instances in
    let j = ap (λ (z : Inst). z.module.0) (inst_read g t run wf k there c.instances-all.result.now c.index-all-k.result c.instances-all.ensures.instances) in
    let m = module_read g t run wf k there c.modules.result.now _ c.index-modules-module.result c.modules.ensures.modules j c.index-modules-module.is in
    let named = c.in-Some.ensures.place ∙ ap (position (bytes_eq c.args.port.now)) (c.outputs.ensures ∙ ap (λ (z : Module). z.outputs) m) in
    let q = c.in-Some-production.production in
    let o = c.in-Some.o in
    starts_low g t run wf k there p child y read q c.in-Some-production.is o c.args.port.now named None

pub edge_item-requires-clause-last : goal.edge_item-requires-clause-last
edge_item-requires-clause-last c =
    let g = c.args.g.now.core in
    let t = c.args.run.now in
    let run = c.requires.run in
    let wf = c.modules.ensures.formed in
    let k = c.args.k in
    let there = c.requires.there in
    let p = c.args.parent in
    let child = c.requires.parent in
    let y = c.index-all-parent.result in
    let read = c.index-all-parent.is ∙ inst_read g t run wf p (parent_there g t run wf k there p child) c.instances-all.result.now y c.instances-all.ensures.instances in
    let j = ap (λ (z : Inst). z.module.0) (inst_read g t run wf k there c.instances-all.result.now c.index-all-k.result c.instances-all.ensures.instances) in
    let m = module_read g t run wf k there c.modules.result.now _ c.index-modules-module.result c.modules.ensures.modules j c.index-modules-module.is in
    let named = c.in-Some.ensures.place ∙ ap (position (bytes_eq c.args.port.now)) (c.outputs.ensures ∙ ap (λ (z : Module). z.outputs) m) in
    let q = c.in-Some-production.production in
    let o = c.in-Some.o in
    ends_high g t run wf k there p child y read q c.in-Some-production.is o c.args.port.now named None

pub edge_item-requires-clause-room : goal.edge_item-requires-clause-room
edge_item-requires-clause-room c =
    let g = c.args.g.now.core in
    let t = c.args.run.now in
    let run = c.requires.run in
    let wf = c.modules.ensures.formed in
    let k = c.args.k in
    let there = c.requires.there in
    let p = c.args.parent in
    let child = c.requires.parent in
    let y = c.index-all-parent.result in
    let read = c.index-all-parent.is ∙ inst_read g t run wf p (parent_there g t run wf k there p child) c.instances-all.result.now y c.instances-all.ensures.instances in
    let j = ap (λ (z : Inst). z.module.0) (inst_read g t run wf k there c.instances-all.result.now c.index-all-k.result c.instances-all.ensures.instances) in
    let m = module_read g t run wf k there c.modules.result.now _ c.index-modules-module.result c.modules.ensures.modules j c.index-modules-module.is in
    let named = c.in-Some.ensures.place ∙ ap (position (bytes_eq c.args.port.now)) (c.outputs.ensures ∙ ap (λ (z : Module). z.outputs) m) in
    let q = c.in-Some-production.production in
    let o = c.in-Some.o in
    let room = has_room g t run wf k there p child y read q c.in-Some-production.is o c.args.port.now named None in
    let small : length t.instances < 4294967296 = subst (λ l. length l < 4294967296) c.instances-all.ensures.instances c.instances-all.ensures.small in
    omega arith

pub returns-clause-found : goal.returns-clause-found
returns-clause-found c =
    let g = c.args.g.now.core in
    let t = c.args.run.now in
    let run = c.requires.run in
    let wf = c.modules.ensures.formed in
    let k = c.args.k in
    let there = c.requires.there in
    let p = c.args.parent in
    let child = c.requires.parent in
    let y = c.index-all-parent.result in
    let read = c.index-all-parent.is ∙ inst_read g t run wf p (parent_there g t run wf k there p child) c.instances-all.result.now y c.instances-all.ensures.instances in
    let j = ap (λ (z : Inst). z.module.0) (inst_read g t run wf k there c.instances-all.result.now c.index-all-k.result c.instances-all.ensures.instances) in
    let m = module_read g t run wf k there c.modules.result.now _ c.index-modules-module.result c.modules.ensures.modules j c.index-modules-module.is in
    let named = c.in-Some.ensures.place ∙ ap (position (bytes_eq c.args.port.now)) (c.outputs.ensures ∙ ap (λ (z : Module). z.outputs) m) in
    let q = c.in-Some-production.production in
    let o = c.in-Some.o in
    answer_found g t run wf k there p child y read q c.in-Some-production.is o c.args.port.now named c.edge_item.result c.edge_item.ensures.found

pub returns-clause-within : goal.returns-clause-within
returns-clause-within c =
    let g = c.args.g.now.core in
    let t = c.args.run.now in
    let run = c.requires.run in
    let wf = c.modules.ensures.formed in
    let k = c.args.k in
    let there = c.requires.there in
    let p = c.args.parent in
    let child = c.requires.parent in
    let y = c.index-all-parent.result in
    let read = c.index-all-parent.is ∙ inst_read g t run wf p (parent_there g t run wf k there p child) c.instances-all.result.now y c.instances-all.ensures.instances in
    let j = ap (λ (z : Inst). z.module.0) (inst_read g t run wf k there c.instances-all.result.now c.index-all-k.result c.instances-all.ensures.instances) in
    let m = module_read g t run wf k there c.modules.result.now _ c.index-modules-module.result c.modules.ensures.modules j c.index-modules-module.is in
    let named = c.in-Some.ensures.place ∙ ap (position (bytes_eq c.args.port.now)) (c.outputs.ensures ∙ ap (λ (z : Module). z.outputs) m) in
    let q = c.in-Some-production.production in
    let o = c.in-Some.o in
    answer_within g t run wf k there p child y read q c.in-Some-production.is o c.args.port.now named c.edge_item.result c.edge_item.ensures.found

pub returns-clause-none : goal.returns-clause-none
returns-clause-none c =
    let g = c.args.g.now.core in
    let t = c.args.run.now in
    let run = c.requires.run in
    let wf = c.modules.ensures.formed in
    let k = c.args.k in
    let there = c.requires.there in
    let p = c.args.parent in
    let child = c.requires.parent in
    let y = c.index-all-parent.result in
    let read = c.index-all-parent.is ∙ inst_read g t run wf p (parent_there g t run wf k there p child) c.instances-all.result.now y c.instances-all.ensures.instances in
    let j = ap (λ (z : Inst). z.module.0) (inst_read g t run wf k there c.instances-all.result.now c.index-all-k.result c.instances-all.ensures.instances) in
    let m = module_read g t run wf k there c.modules.result.now _ c.index-modules-module.result c.modules.ensures.modules j c.index-modules-module.is in
    let named = c.in-Some.ensures.place ∙ ap (position (bytes_eq c.args.port.now)) (c.outputs.ensures ∙ ap (λ (z : Module). z.outputs) m) in
    let q = c.in-Some-production.production in
    let o = c.in-Some.o in
    λ z. answer_none g t run wf k there p child y read q c.in-Some-production.is o c.args.port.now named c.edge_item.result (c.edge_item.ensures.none z)
