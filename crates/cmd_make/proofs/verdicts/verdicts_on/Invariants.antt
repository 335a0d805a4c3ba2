use Rattle.std.proofs.Common.{◌≤◌, ℕ, List, take}
use Rattle.wf_model.specs.View.{View}
use Rattle.label_model.specs.Labels.{Label}
use Rattle.wf_vlabel.specs.Seen.{IsLabelOfView}
use Rattle.wf_decode.specs.Reading.{most_legs}
use Rattle.cmd_make.specs.DrillText.{AreVerdicts}
use Rattle.cmd_make.specs.HeldLabels.{AreHeldPairs}
use Rattle.cmd_make.proofs.verdicts.verdicts_on.Given as goal

-- there is a verdict for each pair so far
abbrev pub invariant-loop-i : goal.invariant-loop-i
invariant-loop-i g l = record {
  room : most_legs l.vl.grammar ≤ l.scratch;
  verdicts : (u : View) (ls : List Label) (ps : List (ℕ × ℕ)) → IsLabelOfView l.vl u → AreHeldPairs l.vl.grammar ls ps l.labels → AreVerdicts l.vl.grammar u ls (take l.i ps) l.verdicts.items;
}
