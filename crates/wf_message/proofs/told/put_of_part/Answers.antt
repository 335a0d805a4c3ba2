use Rattle.std.proofs.Common.{◌++◌}
use Rattle.std.specs.Prelude.{codes, decimal}
use Rattle.wf_message.proofs.Putting.{puts_more, puts_part}
use Rattle.wf_message.proofs.told.put_of_part.Goals as goal

pub returns-in_err-put : goal.returns-in_err-put
returns-in_err-put g c =
    let rest = codes " " ++ (c.args.part.now ++ (codes " " ++ decimal c.args.number)) in
    puts_part g.E.Sink.put_bytes g.E.Sink.faults g.E.Sink.at_last _ c.args.name.now rest _ _ c.from_residual.result c.from_residual.ensures.1 c.in_err-put.ensures

pub returns-in_err-put-2 : goal.returns-in_err-put-2
returns-in_err-put-2 g c =
    let rest = c.args.part.now ++ (codes " " ++ decimal c.args.number) in
    puts_more g.E.Sink.put_bytes g.E.Sink.faults g.E.Sink.at_last c.args.name.now (codes " " ++ rest) _ c.put.new.err _ c.from_residual-in_err-put-2.result c.in_ok-put.ensures
    (puts_part g.E.Sink.put_bytes g.E.Sink.faults g.E.Sink.at_last _ (codes " ") rest _ _ c.from_residual-in_err-put-2.result c.from_residual-in_err-put-2.ensures.1 c.in_err-put-2.ensures)

pub returns : goal.returns
returns g c =
    let rest = c.args.part.now ++ (codes " " ++ decimal c.args.number) in
    puts_more g.E.Sink.put_bytes g.E.Sink.faults g.E.Sink.at_last c.args.name.now (codes " " ++ rest) _ c.put.new.err _ c.put_part.result c.in_ok-put.ensures
    (puts_more g.E.Sink.put_bytes g.E.Sink.faults g.E.Sink.at_last (codes " ") rest _ c.put-2.new.err _ c.put_part.result c.in_ok-put-2.ensures c.put_part.ensures)
