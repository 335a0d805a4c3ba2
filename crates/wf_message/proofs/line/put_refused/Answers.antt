use Rattle.std.proofs.Common.{◌++◌}
use Rattle.std.specs.Prelude.{codes}
use Rattle.wf_message.specs.Endings.{where_of}
use Rattle.wf_message.specs.Refusals.{refusal_text}
use Rattle.wf_message.proofs.Putting.{puts_more, puts_part}
use Rattle.wf_message.proofs.line.put_refused.Goals as goal

pub returns-in_err-put : goal.returns-in_err-put
returns-in_err-put g c =
    let w = where_of c.args.place.word.now c.args.line in
    let r = codes ": " ++ (refusal_text c.args.refusal.now ++ codes "\n") in
    puts_part g.E.Sink.put_bytes g.E.Sink.faults g.E.Sink.at_last _ (codes "refused: ") (w ++ r) _ _ c.from_residual.result c.from_residual.ensures.1 c.in_err-put.ensures

pub returns-in_err-put_where : goal.returns-in_err-put_where
returns-in_err-put_where g c =
    let w = where_of c.args.place.word.now c.args.line in
    let r = codes ": " ++ (refusal_text c.args.refusal.now ++ codes "\n") in
    puts_more g.E.Sink.put_bytes g.E.Sink.faults g.E.Sink.at_last (codes "refused: ") (w ++ r) _ c.put.new.err _ c.from_residual-in_err-put_where.result c.in_ok-put.ensures
    (puts_part g.E.Sink.put_bytes g.E.Sink.faults g.E.Sink.at_last _ w r _ _ c.from_residual-in_err-put_where.result c.from_residual-in_err-put_where.ensures.1 c.in_err-put_where.ensures)

pub returns : goal.returns
returns g c =
    let w = where_of c.args.place.word.now c.args.line in
    let r = codes ": " ++ (refusal_text c.args.refusal.now ++ codes "\n") in
    puts_more g.E.Sink.put_bytes g.E.Sink.faults g.E.Sink.at_last (codes "refused: ") (w ++ r) _ c.put.new.err _ c.put_cause.result c.in_ok-put.ensures
    (puts_more g.E.Sink.put_bytes g.E.Sink.faults g.E.Sink.at_last w r _ c.put_where.new.err _ c.put_cause.result c.in_ok-put_where.ensures c.put_cause.ensures)
