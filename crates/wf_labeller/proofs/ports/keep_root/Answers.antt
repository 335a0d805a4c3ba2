use Rattle.std.proofs.Common.{ℕ, ◌≤◌, List, length, map, arith, ap, sym, subst, ◌∙◌}
use Rattle.wf_model.specs.Grammar.{Module, module_at}
use Rattle.wf_model.specs.declared.numbers.Side.TheVariants.{Input as InputSide, Output as OutputSide}
use Rattle.wf_model.specs.Lists.{IsIn}
use Rattle.label_model.specs.Files.{entry_of}
use Rattle.wf_labeller.specs.Entries.{labelled_ports}
use Rattle.wf_labeller.specs.Keeping.{Adds}
use Rattle.wf_labeller.proofs.KeptSoFar.{adds_again}
use Rattle.wf_labeller.proofs.RootPorts.{root_read, labelled-start}
use Rattle.wf_labeller.proofs.ports.keep_root.Goals as goal

pub keep_ports-requires-clause-few : goal.keep_ports-requires-clause-few
keep_ports-requires-clause-few g c = grind (arith, root_read c.args.g.now.core _ _ _ c.start.ensures.formed c.modules.ensures.modules c.start.ensures.start c.index-modules-start.is)

pub keep_ports-requires-clause-short : goal.keep_ports-requires-clause-short
keep_ports-requires-clause-short g c =
    let r = root_read c.args.g.now.core _ _ _ c.start.ensures.formed c.modules.ensures.modules c.start.ensures.start c.index-modules-start.is in
    subst (λ l. (n : List ℕ) → IsIn n l → length n ≤ 64) (sym c.inputs.ensures) r.short_inputs

pub keep_ports-requires-2-clause-few : goal.keep_ports-requires-2-clause-few
keep_ports-requires-2-clause-few g c = grind (arith, root_read c.args.g.now.core _ _ _ c.start.ensures.formed c.modules.ensures.modules c.start.ensures.start c.index-modules-start.is)

pub keep_ports-requires-2-clause-short : goal.keep_ports-requires-2-clause-short
keep_ports-requires-2-clause-short g c =
    let r = root_read c.args.g.now.core _ _ _ c.start.ensures.formed c.modules.ensures.modules c.start.ensures.start c.index-modules-start.is in
    subst (λ l. (n : List ℕ) → IsIn n l → length n ≤ 64) (sym c.outputs.ensures) r.short_outputs

pub returns-clause-ok : goal.returns-clause-ok
returns-clause-ok g c h events =
    let k = c.args.g.now.core in
    let root = c.args.root.now in
    let old = g.K.Keeper.kept c.args.to.now in
    let mid = g.K.Keeper.kept c.keep_ports.new.to in
    let new = g.K.Keeper.kept c.keep_ports-2.new.to in
    let r = root_read k _ _ _ c.start.ensures.formed c.modules.ensures.modules c.start.ensures.start c.index-modules-start.is in
    let first = subst (λ l. Adds g.K.Keeper.parts_of old mid (map entry_of (labelled_ports InputSide root 0 l))) (c.inputs.ensures ∙ ap (λ (m : Module). m.inputs) r.is) c.in_ok-keep_ports.ensures.ok in
    let second = subst (λ l. Adds g.K.Keeper.parts_of mid new (map entry_of (labelled_ports OutputSide root 0 l))) (c.outputs.ensures ∙ ap (λ (m : Module). m.outputs) r.is) c.in_ok-keep_ports-2.ensures.ok in
    subst (Adds g.K.Keeper.parts_of old new) (sym (labelled-start k events root))
    (adds_again old mid new g.K.Keeper.parts_of (map entry_of (labelled_ports InputSide root 0 (module_at k k.start).inputs)) (map entry_of (labelled_ports OutputSide root 0 (module_at k k.start).outputs)) first second)
