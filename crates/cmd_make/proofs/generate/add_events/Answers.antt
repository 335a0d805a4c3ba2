use Rattle.std.proofs.Common.{◌++◌, ap, ◌∙◌}
use Rattle.wf_stage.proofs.Obeying.{stop_is_not_done}
use Rattle.wf_gen.specs.Lines.{event_line}
use Rattle.cmd_make.proofs.EventsDue.{line_given, no_line, one_given, event_ends, next_wanting, all_given}
use Rattle.cmd_make.proofs.generate.add_events.Goals as goal

pub returns-in-Err-put_piece : goal.returns-in-Err-put_piece
returns-in-Err-put_piece g c =
    let l = line_given c.loop-due.events c.write_next.new.self c.in-Ok-true.field-0 c.due.inside.text.items c.write_next.new.to.items c.in-Ok-true.field-0-test c.in-Ok-true.ensures.next in
    record {
      makes = event_ends _ _ _ _ _ _ _ _ _ _ _ c.loop-due.invariant l.1 (stop_is_not_done c.in-Err-put_piece.stop) (c.in-Err-put_piece.ensures.makes c.loop-due.due (event_line l.0) (l.2 ∙ ap (λ d. d ++ event_line l.0) c.due.view_is));
    }

pub loop-due-preserved : goal.loop-due-preserved
loop-due-preserved g c =
    let l = line_given c.loop-due.events c.write_next.new.self c.in-Ok-true.field-0 c.due.inside.text.items c.write_next.new.to.items c.in-Ok-true.field-0-test c.in-Ok-true.ensures.next in
    one_given _ _ _ _ _ _ _ _ _ _ c.loop-due.invariant l.1 (c.in_default.ensures.makes c.loop-due.due (event_line l.0) (l.2 ∙ ap (λ d. d ++ event_line l.0) c.due.view_is))

pub returns-in-Ok-false : goal.returns-in-Ok-false
returns-in-Ok-false g c =
    let end = no_line c.loop-due.events c.write_next.new.self c.in-Ok-false.field-0 c.due.inside.text.items c.write_next.new.to.items c.in-Ok-false.field-0-test c.in-Ok-false.ensures.next in
    record { makes = all_given _ _ _ _ _ _ c.loop-due.invariant _ (end.0, end.1 ∙ c.due.view_is) }

pub returns-in-Err : goal.returns-in-Err
returns-in-Err g c = record { makes = next_wanting _ _ _ _ _ _ c.loop-due.invariant _ }
