use Rattle.std.proofs.Common.{arith}
use Rattle.wf_vlabel.specs.Seen.{matrices_of}
use Rattle.wf_decode.specs.HeldLegs.{leg_of}
use Rattle.wf_decode.proofs.OpenLegs.{opens_leg}
use Rattle.wf_decode.proofs.Progressing.{way_down_more}
use Rattle.wf_decode.proofs.rows.down.Goals as goal

pub down_leg-row-requires : goal.down_leg-row-requires
down_leg-row-requires g c = let r = c.requires in opens_leg c.args.vl.now r.0 r.1 c.args.legs.now c.loop-leg.leg-index _ r.2 r.3 r.4 (omega arith)

pub loop-leg-preserved : goal.loop-leg-preserved
loop-leg-preserved g c =
    way_down_more (matrices_of c.args.vl.now) (leg_of c.args.vl.now) c.args.legs.now c.loop-leg.leg-index _ c.args.row c.loop-leg.row c.args.steps.now c.loop-leg.steps c.down_leg-row.result c.down_leg-row.new.steps (omega arith)
    c.loop-leg.invariant c.down_leg-row.ensures
