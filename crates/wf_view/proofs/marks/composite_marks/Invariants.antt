use Rattle.std.proofs.Common.{◌≡◌, ◌<◌, ℕ, false, length, get_or}
use Rattle.wf_model.specs.Composite.{is_composite}
use Rattle.wf_view.proofs.marks.composite_marks.Given as goal

abbrev pub invariant-loop-m : goal.invariant-loop-m
invariant-loop-m l = record {
  count : length l.marks.items ≡ l.m;
  each : (k : ℕ) → k < l.m → get_or l.marks.items k false ≡ is_composite l.g.core k;
}
