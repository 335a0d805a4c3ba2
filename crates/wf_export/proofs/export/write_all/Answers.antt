use Rattle.std.proofs.Common.{ℕ, List, subst}
use Rattle.wf_flat.specs.Table.{events_of}
use Rattle.wf_export.specs.ExportText.{export_text}
use Rattle.wf_export.proofs.Texts.{AddsWhole, written_after}
use Rattle.wf_export.proofs.export.write_all.Goals as goal

pub returns : goal.returns
returns g c =
    let text = export_text c.args.g.now.core c.args.view.now.core (events_of c.args.run.now) in
    written_after g.O.Sink.put_bytes g.O.Sink.faults g.O.Sink.at_last text c.put_all.new.due c.args.out.now c.put_all.new.out c.put_due.new.out c.put_due.result
    (subst (λ (d : List ℕ). AddsWhole g.O.Sink.put_bytes g.O.Sink.faults text d c.put_all.new.due c.args.out.now c.put_all.new.out) c.in-Ok.ensures c.in_ok-put_all.ensures)
    c.put_due.ensures
