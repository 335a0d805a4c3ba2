use Rattle.std.proofs.Common.{◌≡◌, ◌≤◌}
use Rattle.std.specs.List.{All}
use Rattle.wf_label.specs.Checkpoints.{IsCheckpoint}
use Rattle.wf_label.proofs.checker.Checker.go_back.Given as goal

abbrev pub invariant-loop-left : goal.invariant-loop-left
invariant-loop-left l = record {
  left : l.left ≤ 32;
  count : l.self-inside.count ≤ 32;
  checkpoints : All (IsCheckpoint l.fn.self) l.self-inside.checkpoints;
  same : l.self-inside.g.grammar.now.core ≡ l.fn.self;
}

abbrev pub decreases-loop-left : goal.decreases-loop-left
decreases-loop-left l = l.left
