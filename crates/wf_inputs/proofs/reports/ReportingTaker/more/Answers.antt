use Rattle.wf_inputs.proofs.ReportLines.{still_within, report_goes_on, report_makes, report_taken, next_refused, next_wanting, refused_at, refused_or_wanting}
use Rattle.wf_inputs.proofs.reports.ReportingTaker.more.Goals as goal

pub returns-in-Ok-clause-within : goal.returns-in-Ok-clause-within
returns-in-Ok-clause-within g c = λ more p within.
    let r = g.R.Grows in
    let old = c.args.self.now in
    let clear = c.clear.ensures in
    let now = c.apply_next.new in
    report_goes_on r.written (r.grammar c.clear.new.self) (r.most c.clear.new.self) old.inbox.kept old.reported (r.is_run c.clear.new.self) (r.text c.clear.new.self) (r.text now.run) clear.text p
    (still_within r.written (r.grammar old.run) (r.grammar c.clear.new.self) (r.most old.run) (r.most c.clear.new.self) old.inbox.kept old.reported (r.is_run old.run) (r.is_run c.clear.new.self) clear.grammar clear.most clear.run p within)
    (r.grammar now.run) (r.most now.run) now.inbox.kept now.reported (r.is_run now.run) c.apply_next.ensures.grammar c.apply_next.ensures.most c.in-Ok.ensures.round

pub returns-in-Ok-clause-taken : goal.returns-in-Ok-clause-taken
returns-in-Ok-clause-taken g c = λ last p within.
    let r = g.R.Grows in
    let old = c.args.self.now in
    let clear = c.clear.ensures in
    let now = c.apply_next.new in
    report_taken r.written (r.grammar c.clear.new.self) (r.most c.clear.new.self) old.inbox.kept old.reported (r.is_run c.clear.new.self) (r.text c.clear.new.self) (r.text now.run) clear.text p
    (still_within r.written (r.grammar old.run) (r.grammar c.clear.new.self) (r.most old.run) (r.most c.clear.new.self) old.inbox.kept old.reported (r.is_run old.run) (r.is_run c.clear.new.self) clear.grammar clear.most clear.run p within)
    (r.grammar now.run) (r.most now.run) now.inbox.kept now.reported (r.is_run now.run) c.apply_next.ensures.grammar c.apply_next.ensures.most c.in-Ok.ensures.round (c.in-Ok.ensures.last last)

pub returns-in-Ok-clause-begins : goal.returns-in-Ok-clause-begins
returns-in-Ok-clause-begins g c = λ p within.
    let r = g.R.Grows in
    let old = c.args.self.now in
    let clear = c.clear.ensures in
    let now = c.apply_next.new in
    report_makes r.written (r.grammar c.clear.new.self) (r.most c.clear.new.self) old.inbox.kept old.reported (r.is_run c.clear.new.self) (r.text c.clear.new.self) (r.text now.run) clear.text p
    (still_within r.written (r.grammar old.run) (r.grammar c.clear.new.self) (r.most old.run) (r.most c.clear.new.self) old.inbox.kept old.reported (r.is_run old.run) (r.is_run c.clear.new.self) clear.grammar clear.most clear.run p within)
    (r.grammar now.run) (r.most now.run) now.inbox.kept now.reported (r.is_run now.run) c.apply_next.ensures.grammar c.apply_next.ensures.most c.in-Ok.ensures.round

pub returns-in-Err-clause-stopped : goal.returns-in-Err-clause-stopped
returns-in-Err-clause-stopped g c = λ e told p within.
    let r = g.R.Grows in
    let old = c.args.self.now in
    let clear = c.clear.ensures in
    let now = c.apply_next.new in
    let stop = refused_at c.in-Err.stopped e told in
    next_refused r.written (r.grammar c.clear.new.self) (r.most c.clear.new.self) old.inbox.kept old.reported (r.is_run c.clear.new.self) (r.text c.clear.new.self) (r.text now.run) clear.text p
    (still_within r.written (r.grammar old.run) (r.grammar c.clear.new.self) (r.most old.run) (r.most c.clear.new.self) old.inbox.kept old.reported (r.is_run old.run) (r.is_run c.clear.new.self) clear.grammar clear.most clear.run p within)
    (r.is_run now.run) stop.0 e stop.2 (c.in-Err.ensures.stopped stop.0 stop.1)

pub returns-in-Err-clause-wanting : goal.returns-in-Err-clause-wanting
returns-in-Err-clause-wanting g c = λ none p within.
    let r = g.R.Grows in
    let old = c.args.self.now in
    let clear = c.clear.ensures in
    let now = c.apply_next.new in
    next_wanting r.written (r.grammar c.clear.new.self) (r.most c.clear.new.self) old.inbox.kept old.reported (r.is_run c.clear.new.self) (r.text c.clear.new.self) (r.text now.run) clear.text p
    (still_within r.written (r.grammar old.run) (r.grammar c.clear.new.self) (r.most old.run) (r.most c.clear.new.self) old.inbox.kept old.reported (r.is_run old.run) (r.is_run c.clear.new.self) clear.grammar clear.most clear.run p within)
    c.in-Err.ensures.same_text

pub returns-in-Err-clause-fault : goal.returns-in-Err-clause-fault
returns-in-Err-clause-fault g c = refused_or_wanting c.in-Err.stopped
