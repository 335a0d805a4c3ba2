use Rattle.wf_inputs.proofs.ReportLines.{still_taken, report_begun, report_begins, report_refused, report_wanting, refused_at, refused_or_wanting}
use Rattle.wf_inputs.proofs.reports.ReportingTaker.take.Goals as goal

pub returns-in-Ok-begun-clause-within : goal.returns-in-Ok-begun-clause-within
returns-in-Ok-begun-clause-within g c = λ s at.
    let r = g.R.Grows in
    let old = c.args.self.now in
    let clear = c.clear.ensures in
    let now = c.begin_report-begun.new in
    report_begun r.written (r.grammar c.clear.new.self) (r.most c.clear.new.self) old.inbox.kept old.reported (r.is_run c.clear.new.self) c.args.number c.args.text.now c.in-Ok.event c.in-Ok.ensures.ok (r.text c.clear.new.self) (r.text now.run) clear.text
    (r.grammar now.run) (r.most now.run) now.inbox.kept now.reported (r.is_run now.run) c.begin_report-begun.ensures.grammar c.begin_report-begun.ensures.most c.in-Ok-begun.ensures.begun s
    (still_taken (r.grammar old.run) (r.grammar c.clear.new.self) (r.most old.run) (r.most c.clear.new.self) old.inbox.kept old.reported (r.is_run old.run) (r.is_run c.clear.new.self) clear.grammar clear.most clear.run s at)

pub returns-in-Ok-begun-clause-begins : goal.returns-in-Ok-begun-clause-begins
returns-in-Ok-begun-clause-begins g c = λ s at.
    let r = g.R.Grows in
    let old = c.args.self.now in
    let clear = c.clear.ensures in
    let now = c.begin_report-begun.new in
    report_begins r.written (r.grammar c.clear.new.self) (r.most c.clear.new.self) old.inbox.kept old.reported (r.is_run c.clear.new.self) c.args.number c.args.text.now c.in-Ok.event c.in-Ok.ensures.ok (r.text c.clear.new.self) (r.text now.run) clear.text
    (r.grammar now.run) (r.most now.run) now.inbox.kept now.reported (r.is_run now.run) c.begin_report-begun.ensures.grammar c.begin_report-begun.ensures.most c.in-Ok-begun.ensures.begun s
    (still_taken (r.grammar old.run) (r.grammar c.clear.new.self) (r.most old.run) (r.most c.clear.new.self) old.inbox.kept old.reported (r.is_run old.run) (r.is_run c.clear.new.self) clear.grammar clear.most clear.run s at)

pub returns-clause-stopped : goal.returns-clause-stopped
returns-clause-stopped g c = λ e told s at.
    let r = g.R.Grows in
    let old = c.args.self.now in
    let clear = c.clear.ensures in
    let now = c.begin_report-begun.new in
    let stop = refused_at c.in-Err-begun.refused e told in
    report_refused r.written (r.grammar c.clear.new.self) (r.most c.clear.new.self) old.inbox.kept old.reported (r.is_run c.clear.new.self) c.args.number c.args.text.now c.in-Ok.event c.in-Ok.ensures.ok (r.text c.clear.new.self) (r.text now.run) clear.text
    (r.is_run now.run) stop.0 e stop.2 (c.in-Err-begun.ensures.stopped stop.0 stop.1) s
    (still_taken (r.grammar old.run) (r.grammar c.clear.new.self) (r.most old.run) (r.most c.clear.new.self) old.inbox.kept old.reported (r.is_run old.run) (r.is_run c.clear.new.self) clear.grammar clear.most clear.run s at)

pub returns-clause-wanting : goal.returns-clause-wanting
returns-clause-wanting g c = λ none s at.
    let r = g.R.Grows in
    let old = c.args.self.now in
    report_wanting r.written (r.grammar c.clear.new.self) (r.most c.clear.new.self) old.inbox.kept old.reported (r.is_run c.clear.new.self) c.args.number c.args.text.now c.in-Ok.event c.in-Ok.ensures.ok (r.text c.clear.new.self) (r.text c.begin_report-begun.new.run)
    c.clear.ensures.text c.in-Err-begun.ensures.same_text s

pub returns-clause-fault : goal.returns-clause-fault
returns-clause-fault g c = refused_or_wanting c.in-Err-begun.refused
