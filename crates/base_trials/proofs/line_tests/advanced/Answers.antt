use Rattle.base_trials.proofs.OpenedLines.{opened_lines}
use Rattle.base_trials.proofs.line_tests.advanced.Goals as goal

pub lines-init : goal.lines-init
lines-init g c = opened_lines _ _ c.in_ok-lines.ensures _
