use Rattle.std.proofs.Common.{◌++◌}
use Rattle.std.specs.Prelude.{codes}
use Rattle.wf_message.proofs.Putting.{puts_more, puts_part}
use Rattle.wf_message.proofs.line.put_read_fault.Goals as goal

pub returns-in_err-put : goal.returns-in_err-put
returns-in_err-put g c = puts_part g.E.Sink.put_bytes g.E.Sink.faults g.E.Sink.at_last _ (codes "fault: reading ") (c.args.place.word.now ++ codes "\n") _ _ c.from_residual.result c.from_residual.ensures.1 c.in_err-put.ensures

pub returns : goal.returns
returns g c =
    puts_more g.E.Sink.put_bytes g.E.Sink.faults g.E.Sink.at_last (codes "fault: reading ") (c.args.place.word.now ++ codes "\n") _ c.put.new.err _ c.put_two.result c.in_ok-put.ensures
    c.put_two.ensures
