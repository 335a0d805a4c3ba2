use Rattle.std.proofs.Common.{◌+◌, ◌<◌, ◌≤◌, length}
use Rattle.wf_recur.specs.Rounds.{ArePlaced, IsWay, numbers_of, stands_in, unplaced}
use Rattle.wf_recur.proofs.rounds.round_from.Given as goal

abbrev pub invariant-loop-step : goal.invariant-loop-step
invariant-loop-step l = record {
  way : IsWay l.g.core l.fn.first.0 (numbers_of l.round.items) l.m.0;
  placed : ArePlaced l.g.core l.fn.cycle.0 (numbers_of l.round.items) (stands_in l.initial.on) (stands_in l.on);
  few : length (numbers_of l.round.items) + unplaced (stands_in l.on) ≤ length l.g.core.modules;
  within : l.m.0 < length l.g.core.modules;
}

abbrev pub decreases-loop-step : goal.decreases-loop-step
decreases-loop-step l = unplaced (stands_in l.on)
