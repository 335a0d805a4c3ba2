use Rattle.wf_flat.specs.Table.{events_of}
use Rattle.wf_export.specs.ExportText.{export_text}
use Rattle.wf_export.proofs.Texts.{written_begun}
use Rattle.wf_export.proofs.export.write_export.Goals as goal

pub returns-clause-begun : goal.returns-clause-begun
returns-clause-begun g c = written_begun g.O.Sink.put_bytes g.O.Sink.faults g.O.Sink.at_last (export_text c.args.v.grammar.now.core c.args.v.view.now.core (events_of c.args.run.now)) c.args.out.now c.write_all.new.out c.write_all.result c.write_all.ensures
