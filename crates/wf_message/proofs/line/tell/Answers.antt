use Rattle.wf_message.specs.Endings.{end_by, line_of}
use Rattle.wf_message.proofs.Putting.{put_by}
use Rattle.wf_message.proofs.line.tell.Goals as goal

pub returns : goal.returns
returns g c = put_by g.E.Sink.put_bytes g.E.Sink.faults g.E.Sink.at_last (line_of (end_by c.args.ending.now)) _ _ c.put_line.result c.put_line.ensures
