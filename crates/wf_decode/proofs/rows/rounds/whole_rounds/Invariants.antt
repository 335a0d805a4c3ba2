use Rattle.std.proofs.Common.{◌≡◌, ◌-◌, ◌<◌, ◌≤◌, true}
use Rattle.bool_mat.specs.Matrix.{has}
use Rattle.decode_model.specs.Legs.{squares}
use Rattle.decode_model.specs.Rows.{Progress}
use Rattle.wf_vlabel.specs.Seen.{matrices_of}
use Rattle.wf_decode.specs.HeldLegs.{module_on}
use Rattle.wf_decode.specs.Ways.{square_on}
use Rattle.wf_decode.proofs.rows.rounds.whole_rounds.Given as goal

abbrev pub invariant-loop-k : goal.invariant-loop-k
invariant-loop-k g l =
    (l.k ≤ l.end) × (l.k < l.end → has l.rounds l.k ≡ true) × Progress (squares (square_on l.way (matrices_of l.vl) (module_on l.vl.cycles l.cycle.0 l.place)) l.rounds l.k) l.fn.row l.row l.fn.steps l.steps

abbrev pub decreases-loop-k : goal.decreases-loop-k
decreases-loop-k g l = l.end - l.k
