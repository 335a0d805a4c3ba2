use Rattle.std.proofs.Common.{◌++◌, ◌∙◌, subst}
use Rattle.wf_lines.specs.Taking.{IsDue}
use Rattle.wf_stage.proofs.Writing.{writes_text}
use Rattle.cmd_make.specs.EventLines.{event_lines}
use Rattle.cmd_make.proofs.MakingDue.{made_due, put_whole}
use Rattle.cmd_make.proofs.generate.put_events.Goals as goal

pub returns : goal.returns
returns g c =
    let m = made_due _ _ _ _ _ c.in_default-add_events.ensures.makes in
    record {
      writes = put_whole _ _ _ _ _ _
          (subst (λ d. IsDue (d ++ event_lines c.args.events.now.events) c.add_events.new.due (g.O.Sink.put_bytes c.args.out.now) (g.O.Sink.put_bytes c.add_events.new.out)) c.in-Ok.ensures m.0) m.1 (writes_text _ _ (c.deref.ensures.value ∙ c.due.view_is) _ _ _ c.put_text.ensures.writes);
    }
