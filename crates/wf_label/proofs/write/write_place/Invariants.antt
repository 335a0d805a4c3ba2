use Rattle.std.proofs.Common.{◌≡◌, ◌≤◌, ◌+◌, ◌*◌, true, [], ◌∷◌, ◌++◌, length, map, take, flat_map}
use Rattle.label_model.specs.Labels.{step_bits}
use Rattle.wf_label.specs.Values.{place_step_of}
use Rattle.wf_label.proofs.write.write_place.Given as goal

abbrev pub invariant-loop-step : goal.invariant-loop-step
invariant-loop-step l = record {
  bits : l.w ≡ (l.fn.w ++ true ∷ []) ++ flat_map step_bits (map place_step_of (take l.step-index l.step-items));
  few : length l.w ≤ length l.fn.w + 1 + 382 * l.step-index;
}
