use Rattle.std.proofs.Common.{◌-◌, arith}
use Rattle.wf_vlabel.specs.Seen.{matrices_of}
use Rattle.wf_decode.specs.HeldLegs.{leg_of}
use Rattle.wf_decode.proofs.OpenLegs.{opens_leg}
use Rattle.wf_decode.proofs.Progressing.{way_up_more}
use Rattle.wf_decode.proofs.rows.up.Goals as goal

pub up_leg-row-requires : goal.up_leg-row-requires
up_leg-row-requires g c = let r = c.requires in opens_leg c.args.vl.now r.0 r.1 c.args.legs.now (c.loop-i.i - 1) _ r.2 r.3 r.4 (omega arith)

pub loop-i-preserved : goal.loop-i-preserved
loop-i-preserved g c =
    way_up_more (matrices_of c.args.vl.now) (leg_of c.args.vl.now) c.args.legs.now c.loop-i.i _ c.args.row c.loop-i.row c.args.steps.now c.loop-i.steps c.up_leg-row.result c.up_leg-row.new.steps (omega arith) (omega arith)
    c.loop-i.invariant c.up_leg-row.ensures
