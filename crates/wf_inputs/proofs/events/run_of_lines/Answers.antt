use Rattle.std.proofs.Common.{◌≡◌, [], Some, refl, arith, sym, ap, ◌∙◌, subst}
use Rattle.std.specs.Prelude.{codes}
use Rattle.wf_laws.proofs.Accepted.{none_taken}
use Rattle.wf_io.specs.Readers.{left_in}
use Rattle.wf_lines.specs.Taking.{IsWritingFault}
use Rattle.wf_lines.proofs.Openings.{told_opened, opened_once}
use Rattle.wf_flat.specs.Table.{IsTableOf, events_of}
use Rattle.wf_stage.specs.Ends.{IsOfOutcome}
use Rattle.wf_stage.specs.Causes.{IsReadingCause}
use Rattle.wf_stage.specs.LineEnds.{end_of_fault}
use Rattle.wf_stage.proofs.LineEnds.{fault_of_outcome, fault_caused_reading}
use Rattle.wf_inputs.specs.Inputs.{instance_most}
use Rattle.wf_inputs.specs.EventsEnd.{event_end}
use Rattle.wf_inputs.specs.RunTold.{StopsEvents}
use Rattle.wf_inputs.specs.RunTaking.{nothing_written, none_taken_of}
use Rattle.wf_inputs.specs.Reporting.{GrowingSeen, IsTakenAs, IsGrownBy}
use Rattle.wf_inputs.proofs.EventStages.{events_one_way, events_begin, events_closed_one_way}
use Rattle.wf_inputs.proofs.EventLines.{AreTakenInto, run_told, AreStoppedAt, stopped_stops}
use Rattle.wf_inputs.proofs.ReportLines.{plain_started, plain_at_start}
use Rattle.wf_inputs.proofs.events.run_of_lines.Goals as goal

pub returns-in-Ok-clause-run : goal.returns-in-Ok-clause-run
returns-in-Ok-clause-run g c =
    let h = c.args.g.now.core in
    let made = c.with_key-run.ensures in
    let start : IsGrownBy c.new-reporting.result.run [] =
    plain_started c.new-reporting.result.run (ap (λ (r : GrowingSeen). r.run) c.new-reporting.ensures.run ∙ made.run) in
    let same : c.new-reporting.result.run.grammar ≡ h = ap (λ (r : GrowingSeen). r.grammar) c.new-reporting.ensures.run ∙ made.grammar in
    subst (IsTableOf h) (sym c.into_run.ensures) (c.take_lines.ensures.known h (same, subst (λ x. IsTableOf x c.new-reporting.result.run.run) same start.run)).1

pub returns-in-Ok-clause-reads : goal.returns-in-Ok-clause-reads
returns-in-Ok-clause-reads g c =
    let h = c.args.g.now.core in
    let made = c.with_key-run.ensures in
    let first = c.new-reporting.result in
    let start = plain_at_start h first.inbox.kept first.reported first.run c.new-reporting.ensures.kept c.new-reporting.ensures.reported (ap (λ (r : GrowingSeen). r.grammar) c.new-reporting.ensures.run ∙ made.grammar) (ap (λ (r : GrowingSeen). r.run) c.new-reporting.ensures.run ∙ made.run) in
    let last = c.take_lines.new.taker in
    let IsLast = IsTakenAs last.run.grammar last.run.run.most last.inbox.kept last.reported (IsGrownBy last.run) in
    λ name is. record {
      told = λ f told.
          run_told h (events_of c.into_run.result) _ (λ q at. sym at.intake.parts.run.events ∙ ap events_of (sym c.into_run.ensures))
          (told_opened (AreTakenInto h IsLast) f name c.args.lines.now is (λ st. c.in-Ok.ensures.taken f told st (none_taken_of h) start));
      count = c.in-Ok.ensures.same;
      same = c.take_lines.ensures.files;
      once = opened_once _ _ is _ _ c.take_lines.ensures.once;
    }

pub returns-in-Err-clause-reads : goal.returns-in-Err-clause-reads
returns-in-Err-clause-reads g c =
    let h = c.args.g.now.core in
    let made = c.with_key-run.ensures in
    let first = c.new-reporting.result in
    let start = plain_at_start h first.inbox.kept first.reported first.run c.new-reporting.ensures.kept c.new-reporting.ensures.reported (ap (λ (r : GrowingSeen). r.grammar) c.new-reporting.ensures.run ∙ made.grammar) (ap (λ (r : GrowingSeen). r.run) c.new-reporting.ensures.run ∙ made.run) in
    let word = codes "events" in
    let e = end_of_fault event_end word c.in-Err.fault in
    λ name is. record {
      stops = λ f told w.
          let of = fault_of_outcome event_end word c.in-Err.fault (subst IsOfOutcome c.events_stop.ensures w) in
          subst (StopsEvents h instance_most _) (sym c.events_stop.ensures)
          (stopped_stops h e _ _ (told_opened (AreStoppedAt h (Some e) (IsWritingFault c.in-Err.fault)) f name c.args.lines.now is
          (λ st. subst (λ o. AreStoppedAt h o (IsWritingFault c.in-Err.fault) (left_in (f c.args.lines.now.name) c.args.lines.now)) of (c.in-Err.ensures.stopped f told st (none_taken_of h) start (events_one_way nothing_written) (events_begin nothing_written (λ k limit before e more. ([], refl))) events_closed_one_way (none_taken h instance_most)))));
      cause = subst (IsReadingCause _ _ _) (sym c.events_stop.ensures) (fault_caused_reading event_end word _ _ _ 0 0 _ c.in-Err.fault (λ r. absurd (let x = r refl in omega (arith, x))) c.in-Err.ensures.fault c.in-Err.ensures.cause);
      same = c.take_lines.ensures.files;
      once = opened_once _ _ is _ _ c.take_lines.ensures.once;
      later = c.take_lines.ensures.later;
    }
