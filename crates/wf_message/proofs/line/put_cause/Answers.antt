use Rattle.std.proofs.Common.{◌++◌}
use Rattle.std.specs.Prelude.{codes}
use Rattle.wf_message.specs.Refusals.{refusal_text}
use Rattle.wf_message.proofs.Putting.{puts_more, puts_part}
use Rattle.wf_message.proofs.line.put_cause.Goals as goal

pub returns-in_err-put : goal.returns-in_err-put
returns-in_err-put g c =
    let r = refusal_text c.args.refusal.now in
    puts_part g.E.Sink.put_bytes g.E.Sink.faults g.E.Sink.at_last _ (codes ": ") (r ++ codes "\n") _ _ c.from_residual.result c.from_residual.ensures.1 c.in_err-put.ensures

pub returns-in_err-put_refusal : goal.returns-in_err-put_refusal
returns-in_err-put_refusal g c =
    let r = refusal_text c.args.refusal.now in
    puts_more g.E.Sink.put_bytes g.E.Sink.faults g.E.Sink.at_last (codes ": ") (r ++ codes "\n") _ c.put.new.err _ c.from_residual-in_err-put_refusal.result c.in_ok-put.ensures
    (puts_part g.E.Sink.put_bytes g.E.Sink.faults g.E.Sink.at_last _ r (codes "\n") _ _ c.from_residual-in_err-put_refusal.result c.from_residual-in_err-put_refusal.ensures.1 c.in_err-put_refusal.ensures)

pub returns : goal.returns
returns g c =
    let r = refusal_text c.args.refusal.now in
    puts_more g.E.Sink.put_bytes g.E.Sink.faults g.E.Sink.at_last (codes ": ") (r ++ codes "\n") _ c.put.new.err _ c.put-2.result c.in_ok-put.ensures
    (puts_more g.E.Sink.put_bytes g.E.Sink.faults g.E.Sink.at_last r (codes "\n") _ c.put_refusal.new.err _ c.put-2.result c.in_ok-put_refusal.ensures c.put-2.ensures)
