use Rattle.std.proofs.Common.{refl, sym, subst}
use Rattle.std.specs.Prelude.{codes}
use Rattle.wf_io.specs.Lines.{FileLines, lines_in}
use Rattle.wf_lines.specs.Taking.{IsWritingFault, end_at}
use Rattle.wf_lines.proofs.Openings.{told_opened, opened_reading, opened_once}
use Rattle.wf_run.specs.Runs.{IsRunOf}
use Rattle.wf_stage.specs.Ends.{EndsBehind}
use Rattle.wf_stage.specs.Causes.{IsCause}
use Rattle.wf_stage.specs.LineEnds.{line_ends, end_of_fault, told_end}
use Rattle.wf_stage.proofs.LineEnds.{fault_of_outcome, fault_caused, writing_of_lines}
use Rattle.wf_stage.proofs.Obeying.{obeys_wanting}
use Rattle.wf_laws.proofs.Accepted.{none_taken}
use Rattle.wf_inputs.specs.Inputs.{instance_most}
use Rattle.wf_inputs.specs.RunTaking.{none_taken_of}
use Rattle.wf_inputs.specs.EventsEnd.{event_end}
use Rattle.wf_inputs.specs.Reporting.{IsTakenAs}
use Rattle.wf_inputs.proofs.EventStages.{events_one_way, events_begin, events_closed_one_way}
use Rattle.cmd_ingest.specs.Ingested.{file_head, file_of}
use Rattle.cmd_ingest.proofs.HeadFirst.{file_more, events_begin_head}
use Rattle.cmd_ingest.proofs.Ingesting.{Made, AreLabelled, labelled_ends, AreLabelledTo, stopped_at}
use Rattle.cmd_ingest.proofs.label_lines.label_lines.Goals as goal

pub returns-in_default : goal.returns-in_default
returns-in_default g c =
    let h = c.args.reporting.now.run.labeller.grammar.core in
    record { obeys = obeys_wanting (file_head h) _ (λ f. events_begin_head h (lines_in (f c.args.name.now))) _ _ }

pub returns-in_default-new : goal.returns-in_default-new
returns-in_default-new g c =
    let h = c.args.reporting.now.run.labeller.grammar.core in
    record { obeys = obeys_wanting (file_head h) _ (λ f. events_begin_head h (lines_in (f c.args.name.now))) _ _ }

pub returns-in-Ok-take_lines : goal.returns-in-Ok-take_lines
returns-in-Ok-take_lines g c =
    let h = c.args.reporting.now.run.labeller.grammar.core in
    let last = c.take_lines.new.taker in
    let IsLast = IsTakenAs last.run.labeller.grammar.core last.run.labeller.most last.inbox.kept last.reported (IsRunOf last.run.labeller) in
    let taken = c.in-Ok-take_lines.ensures in
    record {
      obeys = record {
        ends = λ f told.
            labelled_ends h (lines_in (f c.args.name.now)) _ _
            (told_opened (λ (file : FileLines). AreLabelled h file IsLast (g.O.Sink.put_bytes c.args.out.now) (g.O.Sink.put_bytes c.take_lines.new.out)) f c.args.name.now c.in-Ok.lines c.in-Ok.ensures
            (λ st. taken.taken f told st (none_taken_of h) c.requires.none));
        cause = (taken.same, taken.put_same);
        same = c.take_lines.ensures.files;
        in_turn = (_, opened_once _ _ c.in-Ok.ensures _ _ c.take_lines.ensures.once, refl);
        later = c.take_lines.ensures.later;
        put_later = c.take_lines.ensures.put_later;
      };
    }

pub returns : goal.returns
returns g c =
    let h = c.args.reporting.now.run.labeller.grammar.core in
    let word = codes "events" in
    let fault = c.in-Err.fault in
    record {
      obeys = record {
        ends = λ f told.
            subst (λ e. EndsBehind (file_head h) (Made h (lines_in (f c.args.name.now))) e (g.O.Sink.put_bytes c.args.out.now) (g.O.Sink.put_bytes c.take_lines.new.out)) (sym c.events_stop.ensures)
            (stopped_at h (lines_in (f c.args.name.now)) (end_at (line_ends word) (λ stop. told_end (event_end stop)) fault) (end_of_fault event_end word fault) (IsWritingFault fault) _ _ (fault_of_outcome event_end word fault) (writing_of_lines event_end word fault c.in-Err.ensures.fault)
            (told_opened (λ (file : FileLines). AreLabelledTo h file (end_at (line_ends word) (λ stop. told_end (event_end stop)) fault) (IsWritingFault fault) (g.O.Sink.put_bytes c.args.out.now) (g.O.Sink.put_bytes c.take_lines.new.out)) f c.args.name.now c.in-Ok.lines c.in-Ok.ensures
            (λ st. c.in-Err.ensures.stopped f told st (none_taken_of h) c.requires.none (events_one_way file_of) (events_begin file_of file_more) events_closed_one_way (none_taken h instance_most))));
        cause = subst (IsCause _ _ _ _ _ _) (sym c.events_stop.ensures) (fault_caused event_end word _ _ _ _ _ _ fault c.in-Err.ensures.fault c.in-Err.ensures.cause);
        same = c.take_lines.ensures.files;
        in_turn = (_, opened_once _ _ c.in-Ok.ensures _ _ c.take_lines.ensures.once, refl);
        later = c.take_lines.ensures.later;
        put_later = c.take_lines.ensures.put_later;
      };
    }

pub take_lines-requires-clause-reading : goal.take_lines-requires-clause-reading
take_lines-requires-clause-reading g c = opened_reading _ _ c.in-Ok.ensures _
