use Rattle.std.proofs.Common.{ℕ, ◌<◌, ◌≤◌, List, ap, sym, subst, length, get_or}
use Rattle.std.proofs.lemmas.Result.{err_from_is_err_and}
use Rattle.wf_model.specs.Lists.{IsIn}
use Rattle.wf_model.proofs.Lists.{at_in, is_at}
use Rattle.wf_flat.specs.declared.table.Inst.{Inst}
use Rattle.wf_flat.specs.Table.{events_of}
use Rattle.wf_flat.proofs.OfInstance.{module_there}
use Rattle.wf_export.specs.ExportText.{instances_text}
use Rattle.wf_export.specs.Shown.{held_instance_line}
use Rattle.wf_export.proofs.Texts.{first_more, first_passed, first_whole}
use Rattle.wf_export.proofs.InstanceLines.{numbered_line, lines_told, read_told}
use Rattle.wf_export.proofs.instance_lines.put_instances.Goals as goal

pub bounds-instances-k : goal.bounds-instances-k
bounds-instances-k g c =
    let s = c.seen-k-items.result.now in
    let k = get_or s c.loop-k.k-index 0 in
    subst (λ (l : List Inst). k < length l) (sym c.instances-instances.ensures.instances) (c.requires.there k (subst (IsIn k) c.seen-k-items.ensures (at_in k c.loop-k.k-index s (is_at c.loop-k.k-index s 0 c.loop-k-test.true))))

pub put_instance-requires : goal.put_instance-requires
put_instance-requires g c =
    let t = c.args.run.now in
    let s = c.seen-k-items.result.now in
    let ns = c.args.shown.now.numbers in
    let k = get_or s c.loop-k.k-index 0 in
    let low = c.requires.there k (subst (IsIn k) c.seen-k-items.ensures (at_in k c.loop-k.k-index s (is_at c.loop-k.k-index s 0 c.loop-k-test.true))) in
    let held = subst (λ (l : List Inst). k < length l) (sym c.instances-instances.ensures.instances) low in
    let same = read_told c.instances-instances.result.now t.instances s ns c.loop-k.k-index c.index-instances-k.result c.instances-instances.ensures.instances c.seen-k-items.ensures held c.index-instances-k.is in
    subst (λ (x : Inst). x.module.0 < length c.args.g.now.core.modules) (sym same)
    (module_there c.args.g.now.core t c.requires.run c.requires.grammar (get_or ns c.loop-k.k-index 0) (subst (λ (l : List ℕ). get_or l c.loop-k.k-index 0 < length t.instances) c.seen-k-items.ensures low))

pub returns-in_err-put_instance : goal.returns-in_err-put_instance
returns-in_err-put_instance g c =
    let t = c.args.run.now in
    let h = c.args.g.now.core in
    let u = c.args.view.now.core in
    let s = c.seen-k-items.result.now in
    let ns = c.args.shown.now.numbers in
    let k = get_or s c.loop-k.k-index 0 in
    let low = c.requires.there k (subst (IsIn k) c.seen-k-items.ensures (at_in k c.loop-k.k-index s (is_at c.loop-k.k-index s 0 c.loop-k-test.true))) in
    let held = subst (λ (l : List Inst). k < length l) (sym c.instances-instances.ensures.instances) low in
    let same = read_told c.instances-instances.result.now t.instances s ns c.loop-k.k-index c.index-instances-k.result c.instances-instances.ensures.instances c.seen-k-items.ensures held c.index-instances-k.is in
    let more = subst (λ (l : List ℕ). c.loop-k.k-index < length l) c.seen-k-items.ensures c.loop-k-test.true in
    first_passed g.O.Sink.put_bytes g.O.Sink.faults g.O.Sink.at_last (numbered_line h u t.instances) ns (instances_text h u (events_of t)) (lines_told h u t c.args.shown.now c.requires)
    c.loop-k.k-index 0 (held_instance_line h u c.index-instances-k.result) more (ap (held_instance_line h u) same)
    c.args.due.now c.loop-k.due c.put_instance.new.due c.args.out.now c.loop-k.out c.put_instance.new.out c.from_residual.result c.in_err-put_instance.field-0.0 (err_from_is_err_and c.from_residual.result c.from_residual.ensures.1)
    c.loop-k.invariant c.in_err-put_instance.ensures

pub loop-k-preserved : goal.loop-k-preserved
loop-k-preserved g c =
    let t = c.args.run.now in
    let h = c.args.g.now.core in
    let u = c.args.view.now.core in
    let s = c.seen-k-items.result.now in
    let ns = c.args.shown.now.numbers in
    let k = get_or s c.loop-k.k-index 0 in
    let low = c.requires.there k (subst (IsIn k) c.seen-k-items.ensures (at_in k c.loop-k.k-index s (is_at c.loop-k.k-index s 0 c.loop-k-test.true))) in
    let held = subst (λ (l : List Inst). k < length l) (sym c.instances-instances.ensures.instances) low in
    let same = read_told c.instances-instances.result.now t.instances s ns c.loop-k.k-index c.index-instances-k.result c.instances-instances.ensures.instances c.seen-k-items.ensures held c.index-instances-k.is in
    let more = subst (λ (l : List ℕ). c.loop-k.k-index < length l) c.seen-k-items.ensures c.loop-k-test.true in
    first_more g.O.Sink.put_bytes g.O.Sink.faults g.O.Sink.at_last (numbered_line h u t.instances) ns c.loop-k.k-index 0 (held_instance_line h u c.index-instances-k.result) more (ap (held_instance_line h u) same)
    c.args.due.now c.loop-k.due c.put_instance.new.due c.args.out.now c.loop-k.out c.put_instance.new.out c.loop-k.invariant c.in_ok-put_instance.ensures

pub returns : goal.returns
returns g c =
    let t = c.args.run.now in
    let h = c.args.g.now.core in
    let u = c.args.view.now.core in
    first_whole g.O.Sink.put_bytes g.O.Sink.faults g.O.Sink.at_last (numbered_line h u t.instances) c.args.shown.now.numbers (instances_text h u (events_of t)) (lines_told h u t c.args.shown.now c.requires)
    c.loop-k.k-index (subst (λ (l : List ℕ). length l ≤ c.loop-k.k-index) c.seen-k-items.ensures c.loop-k-test.false)
    c.args.due.now c.loop-k.due c.args.out.now c.loop-k.out c.loop-k.invariant
