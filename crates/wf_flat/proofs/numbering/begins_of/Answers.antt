use Rattle.std.proofs.Common.{◌≡◌, ◌+◌, ◌*◌, ◌<◌, ◌∙◌, List, length, get_or, ap, sym, subst, arith}
use Rattle.std.proofs.lemmas.List.{get_or_read}
use Rattle.wf_model.specs.Grammar.{inputs_of, outputs_of}
use Rattle.wf_model.specs.declared.numbers.Side.TheVariants.{Input, Output}
use Rattle.wf_flat.specs.declared.table.Inst.{Inst}
use Rattle.wf_flat.specs.Table.{no_instance}
use Rattle.wf_flat.specs.Numbering.{AreSums, widths_of}
use Rattle.wf_flat.proofs.Naming.{counted}
use Rattle.wf_flat.proofs.Numbers.{sums_more, below_last}
use Rattle.wf_flat.proofs.OfInstance.{module_there}
use Rattle.wf_flat.proofs.Widths.{length-widths, width_at}
use Rattle.wf_flat.proofs.numbering.begins_of.Goals as goal

pub bounds-modules-x : goal.bounds-modules-x
bounds-modules-x c =
    let g = c.args.g.now.core in
    let t = c.args.run.now in
    let xs = c.instances-instances.result.now in
    let i = c.loop-x.x-index in
    let is = c.instances-instances.ensures.instances in
    let e = get_or_read xs i c.x-item.result c.loop-x-test.true c.x-item.is no_instance ∙ ap (λ (l : List Inst). get_or l i no_instance) is in
    let low = module_there g t c.requires c.start-formed.ensures.formed i (subst (λ (l : List Inst). i < length l) is c.loop-x-test.true) in
    let n = ap length c.modules.ensures.modules in
    subst (λ (y : Inst). y.module.0 < length c.modules.result.now) (sym e) (omega (arith, low))

pub add_side-requires : goal.add_side-requires
add_side-requires c =
    let g = c.args.g.now.core in
    let t = c.args.run.now in
    let xs = c.instances-instances.result.now in
    let i = c.loop-x.x-index in
    let is = c.instances-instances.ensures.instances in
    let e = get_or_read xs i c.x-item.result c.loop-x-test.true c.x-item.is no_instance ∙ ap (λ (l : List Inst). get_or l i no_instance) is in
    let low = subst (λ (y : Inst). y.module.0 < length g.modules) (sym e) (module_there g t c.requires c.start-formed.ensures.formed i (subst (λ (l : List Inst). i < length l) is c.loop-x-test.true)) in
    let r = counted g c.modules.result.now c.x-item.result.module.0 c.index-modules-x.result c.modules.ensures.formed c.modules.ensures.modules low c.index-modules-x.is in
    let n = ap length c.inputs.ensures in
    let f = r.few_inputs in
    omega arith

pub add_side-requires-in-loop-x : goal.add_side-requires-in-loop-x
add_side-requires-in-loop-x c =
    let g = c.args.g.now.core in
    let t = c.args.run.now in
    let xs = c.instances-instances.result.now in
    let i = c.loop-x.x-index in
    let is = c.instances-instances.ensures.instances in
    let e = get_or_read xs i c.x-item.result c.loop-x-test.true c.x-item.is no_instance ∙ ap (λ (l : List Inst). get_or l i no_instance) is in
    let low = subst (λ (y : Inst). y.module.0 < length g.modules) (sym e) (module_there g t c.requires c.start-formed.ensures.formed i (subst (λ (l : List Inst). i < length l) is c.loop-x-test.true)) in
    let r = counted g c.modules.result.now c.x-item.result.module.0 c.index-modules-x.result c.modules.ensures.formed c.modules.ensures.modules low c.index-modules-x.is in
    let n = ap length c.outputs.ensures in
    let f = r.few_outputs in
    omega arith

pub loop-x-preserved : goal.loop-x-preserved
loop-x-preserved c =
    let g = c.args.g.now.core in
    let t = c.args.run.now in
    let xs = c.instances-instances.result.now in
    let i = c.loop-x.x-index in
    let is = c.instances-instances.ensures.instances in
    let here = get_or_read xs i c.x-item.result c.loop-x-test.true c.x-item.is no_instance in
    let e = here ∙ ap (λ (l : List Inst). get_or l i no_instance) is in
    let low = subst (λ (y : Inst). y.module.0 < length g.modules) (sym e) (module_there g t c.requires c.start-formed.ensures.formed i (subst (λ (l : List Inst). i < length l) is c.loop-x-test.true)) in
    let r = counted g c.modules.result.now c.x-item.result.module.0 c.index-modules-x.result c.modules.ensures.formed c.modules.ensures.modules low c.index-modules-x.is in
    let W = widths_of g xs in
    let place : 2 * i + 0 ≡ 2 * i = omega arith in
    let first : length c.inputs.result.now ≡ get_or W (2 * i) 0 =
    ap length c.inputs.ensures ∙ (r.inputs ∙ (ap (λ (y : Inst). inputs_of g y.module.0) here ∙ (sym (width_at g xs i Input c.loop-x-test.true) ∙ ap (λ n. get_or W n 0) place))) in
    let second : length c.outputs.result.now ≡ get_or W (2 * i + 1) 0 =
    ap length c.outputs.ensures ∙ (r.outputs ∙ (ap (λ (y : Inst). outputs_of g y.module.0) here ∙ sym (width_at g xs i Output c.loop-x-test.true))) in
    let one = sums_more W c.loop-x.begins.items c.add_side.new.begins.items (2 * i) c.loop-x.next c.in_ok-middle.middle (length c.inputs.result.now) c.loop-x.invariant.sums c.loop-x.invariant.last first c.in_ok-middle.ensures.sum c.in_ok-middle.ensures.added in
    let two = sums_more W c.add_side.new.begins.items c.add_side-in-loop-x.new.begins.items (2 * i + 1) c.in_ok-middle.middle c.in_ok-next.next (length c.outputs.result.now) one.0 one.1 second c.in_ok-next.ensures.sum c.in_ok-next.ensures.added in
    let next : (2 * i + 1) + 1 ≡ 2 * (i + 1) = omega arith in
    record {
      sums = subst (AreSums W c.add_side-in-loop-x.new.begins.items) next two.0;
      last = subst (λ n. get_or c.add_side-in-loop-x.new.begins.items n 0 ≡ c.in_ok-next.next) next two.1;
      small = c.in_ok-next.ensures.small;
    }

pub returns-clause-begins : goal.returns-clause-begins
returns-clause-begins c =
    let g = c.args.g.now.core in
    let xs = c.instances-instances.result.now in
    let n = length-widths g xs in
    let a = c.loop-x.auto.x-index-end in
    let b = c.loop-x-test.false in
    let last : 2 * c.loop-x.x-index ≡ length (widths_of g xs) = omega arith in
    subst (λ (l : List Inst). AreSums (widths_of g l) c.loop-x.begins.items (length (widths_of g l))) c.instances-instances.ensures.instances
    (subst (AreSums (widths_of g xs) c.loop-x.begins.items) last c.loop-x.invariant.sums)

pub returns-clause-small : goal.returns-clause-small
returns-clause-small c = λ k.
    let b = below_last (widths_of c.args.g.now.core c.instances-instances.result.now) c.loop-x.begins.items (2 * c.loop-x.x-index) c.loop-x.invariant.sums k in
    let e = c.loop-x.invariant.last in
    let s = c.loop-x.invariant.small in
    omega arith
