use Rattle.std.proofs.Common.{◌≡◌, ◌++◌, flat_map, take}
use Rattle.wf_gen.specs.Lines.{event_line}
use Rattle.wf_compare.proofs.text.add_events.Given as goal

-- the events so far
abbrev pub invariant-loop-event : goal.invariant-loop-event
invariant-loop-event l = l.out.items ≡ l.initial.out.items ++ flat_map event_line (take l.event-index l.run)
