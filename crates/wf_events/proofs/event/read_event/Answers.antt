use Rattle.std.proofs.lemmas.Option.{MatchOption-at_some}
use Rattle.wf_events.specs.Plain.{IsTextOf}
use Rattle.wf_events.proofs.ReadBack.{text_read}
use Rattle.wf_events.proofs.event.read_event.Goals as goal

pub returns-clause-ok : goal.returns-clause-ok
returns-clause-ok c = text_read c.args.line.now c.in-Some.event (MatchOption-at_some _ (λ e. IsTextOf c.args.line.now e) c.in-Some.event c.in-Some.is c.in_ok-event.ensures)
