use Rattle.wf_decode.proofs.HeldColumns.{common_column}
use Rattle.wf_decode.proofs.decision.legs_left.meet.Goals as goal

pub returns : goal.returns
returns c = common_column c.args.a c.args.b c.ranges.a.fits
