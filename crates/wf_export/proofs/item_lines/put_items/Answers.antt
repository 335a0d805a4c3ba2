use Rattle.std.proofs.Common.{◌++◌, List, subst}
use Rattle.std.proofs.lemmas.Result.{err_from_is_err_and}
use Rattle.std.specs.Prelude.{flat_map}
use Rattle.wf_flat.specs.declared.table.Inst.{Inst}
use Rattle.wf_export.specs.Adds.{IsStopped}
use Rattle.wf_export.specs.Shown.{root_lines, expansion_lines, held_items_text}
use Rattle.wf_export.proofs.Texts.{AddsWhole, passed, stopped_longer, adds_after}
use Rattle.wf_export.proofs.item_lines.put_items.Goals as goal

pub returns-in_err-put_root : goal.returns-in_err-put_root
returns-in_err-put_root g c =
    let h = c.args.g.now.core in
    let t = c.args.run.now in
    let flags = c.args.shown.now.opens in
    let rest = flat_map (expansion_lines h t.instances flags) t.order in
    passed g.O.Sink.put_bytes g.O.Sink.faults g.O.Sink.at_last (held_items_text h t flags) c.args.due.now c.put_root.new.due c.args.out.now c.put_root.new.out c.from_residual.result c.in_err-put_root.field-0.0 (err_from_is_err_and c.from_residual.result c.from_residual.ensures.1)
    (subst (λ (l : List Inst). IsStopped (c.args.due.now ++ (root_lines h l ++ rest)) (g.O.Sink.put_bytes c.args.out.now) (g.O.Sink.put_bytes c.put_root.new.out) (g.O.Sink.faults c.args.out.now) (g.O.Sink.faults c.put_root.new.out) (g.O.Sink.at_last c.put_root.new.out) c.in_err-put_root.field-0.0) c.instances.ensures.instances
    (stopped_longer g.O.Sink.put_bytes g.O.Sink.faults g.O.Sink.at_last (root_lines h c.instances.result.now) rest c.args.due.now c.args.out.now c.put_root.new.out c.in_err-put_root.field-0.0 c.in_err-put_root.ensures))

pub returns : goal.returns
returns g c =
    let h = c.args.g.now.core in
    let t = c.args.run.now in
    let rest = flat_map (expansion_lines h t.instances c.args.shown.now.opens) t.order in
    adds_after g.O.Sink.put_bytes g.O.Sink.faults g.O.Sink.at_last (root_lines h t.instances) rest c.args.due.now c.put_root.new.due c.put_expansions.new.due c.args.out.now c.put_root.new.out c.put_expansions.new.out c.put_expansions.result
    (subst (λ (l : List Inst). AddsWhole g.O.Sink.put_bytes g.O.Sink.faults (root_lines h l) c.args.due.now c.put_root.new.due c.args.out.now c.put_root.new.out) c.instances.ensures.instances c.in_ok-put_root.ensures)
    c.put_expansions.ensures
