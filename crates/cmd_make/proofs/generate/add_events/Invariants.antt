use Rattle.std.proofs.Common.{length}
use Rattle.cmd_make.proofs.EventsDue.{AreDue}
use Rattle.cmd_make.proofs.generate.add_events.Given as goal

-- the lines of the events that were given are due
abbrev pub invariant-loop-due : goal.invariant-loop-due
invariant-loop-due g l = AreDue g.O.Sink.put_bytes g.O.Sink.faults l.initial.events.events l.initial.due l.events.events l.due l.initial.out l.out

abbrev pub decreases-loop-due : goal.decreases-loop-due
decreases-loop-due g l = length l.events.events
