use Rattle.std.proofs.Common.{◌∙◌, ap, sym}
use Rattle.wf_intake.specs.Reported.{with_places}
use Rattle.wf_intake.proofs.round.apply_event.Goals as goal

pub returns-in-Ok-clause-noted : goal.returns-in-Ok-clause-noted
returns-in-Ok-clause-noted g c = c.note.ensures c.args.reported.now c.in_ok-make_room.ensures.places

pub returns-in-Err-clause-same_lines : goal.returns-in-Err-clause-same_lines
returns-in-Err-clause-same_lines g c = c.drop_last.ensures c.args.reported.now (c.in_ok-make_room.ensures.places ∙ ap (with_places c.args.reported.now) (sym c.count_names.ensures))
