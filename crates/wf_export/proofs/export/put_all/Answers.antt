use Rattle.std.proofs.Common.{◌++◌, subst}
use Rattle.std.proofs.lemmas.Result.{err_from_is_err_and}
use Rattle.wf_flat.specs.Table.{events_of}
use Rattle.wf_export.specs.Adds.{Adds}
use Rattle.wf_export.specs.ExportText.{instances_text}
use Rattle.wf_export.specs.Shown.{held_items_text, seen_links_text}
use Rattle.wf_export.proofs.Texts.{passed, stopped_longer, stopped_after, adds_after}
use Rattle.wf_export.proofs.WholeText.{text_told}
use Rattle.wf_export.proofs.export.put_all.Goals as goal

pub returns-in_err-put_instances : goal.returns-in_err-put_instances
returns-in_err-put_instances g c =
    let h = c.args.g.now.core in
    let u = c.args.view.now.core in
    let t = c.args.run.now in
    let first = instances_text h u (events_of t) in
    let rest = held_items_text h t c.args.shown.now.opens ++ seen_links_text h c.args.shown.now c.args.rows.now t.instances in
    subst (λ x. Adds g.O.Sink.put_bytes g.O.Sink.faults g.O.Sink.at_last x c.args.due.now c.put_instances.new.due c.args.out.now c.put_instances.new.out c.from_residual.result) (text_told h u t c.args.rows.now c.args.shown.now c.requires.seen c.requires.links)
    (passed g.O.Sink.put_bytes g.O.Sink.faults g.O.Sink.at_last (first ++ rest) c.args.due.now c.put_instances.new.due c.args.out.now c.put_instances.new.out c.from_residual.result c.in_err-put_instances.field-0.0 (err_from_is_err_and c.from_residual.result c.from_residual.ensures.1)
    (stopped_longer g.O.Sink.put_bytes g.O.Sink.faults g.O.Sink.at_last first rest c.args.due.now c.args.out.now c.put_instances.new.out c.in_err-put_instances.field-0.0 c.in_err-put_instances.ensures))

pub returns-in_err-put_items : goal.returns-in_err-put_items
returns-in_err-put_items g c =
    let h = c.args.g.now.core in
    let u = c.args.view.now.core in
    let t = c.args.run.now in
    let first = instances_text h u (events_of t) in
    let items = held_items_text h t c.args.shown.now.opens in
    let last = seen_links_text h c.args.shown.now c.args.rows.now t.instances in
    subst (λ x. Adds g.O.Sink.put_bytes g.O.Sink.faults g.O.Sink.at_last x c.args.due.now c.put_items.new.due c.args.out.now c.put_items.new.out c.from_residual-in_err-put_items.result) (text_told h u t c.args.rows.now c.args.shown.now c.requires.seen c.requires.links)
    (passed g.O.Sink.put_bytes g.O.Sink.faults g.O.Sink.at_last (first ++ (items ++ last)) c.args.due.now c.put_items.new.due c.args.out.now c.put_items.new.out c.from_residual-in_err-put_items.result c.in_err-put_items.field-0.0 (err_from_is_err_and c.from_residual-in_err-put_items.result c.from_residual-in_err-put_items.ensures.1)
    (stopped_after g.O.Sink.put_bytes g.O.Sink.faults g.O.Sink.at_last first (items ++ last) c.args.due.now c.put_instances.new.due c.args.out.now c.put_instances.new.out c.put_items.new.out c.in_err-put_items.field-0.0 c.in_ok-put_instances.ensures
    (stopped_longer g.O.Sink.put_bytes g.O.Sink.faults g.O.Sink.at_last items last c.put_instances.new.due c.put_instances.new.out c.put_items.new.out c.in_err-put_items.field-0.0 c.in_err-put_items.ensures)))

pub returns : goal.returns
returns g c =
    let h = c.args.g.now.core in
    let u = c.args.view.now.core in
    let t = c.args.run.now in
    let first = instances_text h u (events_of t) in
    let items = held_items_text h t c.args.shown.now.opens in
    let last = seen_links_text h c.args.shown.now c.args.rows.now t.instances in
    subst (λ x. Adds g.O.Sink.put_bytes g.O.Sink.faults g.O.Sink.at_last x c.args.due.now c.put_links.new.due c.args.out.now c.put_links.new.out c.put_links.result) (text_told h u t c.args.rows.now c.args.shown.now c.requires.seen c.requires.links)
    (adds_after g.O.Sink.put_bytes g.O.Sink.faults g.O.Sink.at_last first (items ++ last) c.args.due.now c.put_instances.new.due c.put_links.new.due c.args.out.now c.put_instances.new.out c.put_links.new.out c.put_links.result c.in_ok-put_instances.ensures
    (adds_after g.O.Sink.put_bytes g.O.Sink.faults g.O.Sink.at_last items last c.put_instances.new.due c.put_items.new.due c.put_links.new.due c.put_instances.new.out c.put_items.new.out c.put_links.new.out c.put_links.result c.in_ok-put_items.ensures c.put_links.ensures))
