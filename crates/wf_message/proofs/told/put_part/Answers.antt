use Rattle.std.proofs.Common.{◌++◌}
use Rattle.std.specs.Prelude.{codes, decimal}
use Rattle.wf_message.proofs.Putting.{puts_more, puts_part}
use Rattle.wf_message.proofs.told.put_part.Goals as goal

pub returns-in_err-put : goal.returns-in_err-put
returns-in_err-put g c =
    puts_part g.E.Sink.put_bytes g.E.Sink.faults g.E.Sink.at_last _ c.args.part.now (codes " " ++ decimal c.args.number) _ _ c.from_residual.result c.from_residual.ensures.1 c.in_err-put.ensures

pub returns : goal.returns
returns g c =
    puts_more g.E.Sink.put_bytes g.E.Sink.faults g.E.Sink.at_last c.args.part.now (codes " " ++ decimal c.args.number) _ c.put.new.err _ c.put_numbered.result c.in_ok-put.ensures c.put_numbered.ensures
