use Rattle.std.proofs.Common.{ℕ, ◌<◌, ◌++◌, ◌∙◌, List, [], ap, sym, subst, length, get_or}
use Rattle.std.specs.Prelude.{codes}
use Rattle.std.proofs.lemmas.List.{get_or_read, get_or-map}
use Rattle.wf_model.specs.Grammar.{Module, module_at}
use Rattle.wf_model.specs.Items.{dotted}
use Rattle.wf_model.proofs.ItemNames.{dotted_at}
use Rattle.wf_flat.specs.Table.{names_in, no_instance}
use Rattle.wf_flat.specs.declared.table.Inst.{Inst}
use Rattle.wf_flat.proofs.OfInstance.{module_there}
use Rattle.wf_chain.specs.HeldItems.{side_names}
use Rattle.wf_chain.proofs.Texts.{three_behind}
use Rattle.wf_chain.proofs.text.add_port.Goals as goal

pub bounds-modules-instance : goal.bounds-modules-instance
bounds-modules-instance c =
    let g = c.args.g.now.core in
    let t = c.args.run.now in
    let k = c.args.port.instance in
    let at = c.index-instances-port.is ∙ ap (λ l. get_or l k c.index-instances-port.result) c.instances.ensures.instances in
    let e = get_or_read t.instances k c.index-instances-port.result c.requires.there at no_instance in
    subst (λ (l : List Module). c.index-instances-port.result.module.0 < length l) (sym c.modules.ensures.modules)
    (subst (λ (y : Inst). y.module.0 < length g.modules) (sym e) (module_there g t c.requires.run c.modules.ensures.formed k c.requires.there))

pub returns : goal.returns
returns c =
    let g = c.args.g.now.core in
    let t = c.args.run.now in
    let k = c.args.port.instance in
    let at = c.index-instances-port.is ∙ ap (λ l. get_or l k c.index-instances-port.result) c.instances.ensures.instances in
    let e = get_or_read t.instances k c.index-instances-port.result c.requires.there at no_instance in
    let low = subst (λ (y : Inst). y.module.0 < length g.modules) (sym e) (module_there g t c.requires.run c.modules.ensures.formed k c.requires.there) in
    let m = c.index-instances-port.result.module.0 in
    let mat = c.index-modules-instance.is ∙ ap (λ l. get_or l m c.index-modules-instance.result) c.modules.ensures.modules in
    let module_is = get_or_read g.modules m c.index-modules-instance.result low mat (record { name = []; inputs = []; outputs = [] }) ∙ ap (λ (y : Inst). module_at g y.module.0) e in
    let name = c.bytes.ensures ∙ (ap (λ (y : Inst). y.name) e ∙ sym (get_or-map (λ (y : Inst). y.name) t.instances k no_instance [] c.requires.there)) in
    let port = c.name_at.ensures ∙ ap (λ (ns : List (List ℕ)). get_or ns c.args.port.port.0 []) (c.names_on.ensures ∙ ap (λ (z : Module). side_names c.args.port.side z) module_is) in
    three_behind c.args.text.now.items c.bytes.result.now (codes ".") c.name_at.result.now _ _ _ c.in_ok-extend_from_slice.ensures.items c.in_ok-extend_from_slice-2.ensures.items c.in_ok-extend_from_slice-3.ensures.items
    ∙ ap (λ z. c.args.text.now.items ++ z)
    (sym (dotted_at c.bytes.result.now c.name_at.result.now) ∙ (ap (λ z. dotted z c.name_at.result.now) name ∙ ap (λ z. dotted (get_or (names_in t.instances) k []) z) port))
