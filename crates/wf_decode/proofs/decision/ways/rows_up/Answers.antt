use Rattle.std.proofs.Common.{◌+◌, ◌-◌, length, refl, arith}
use Rattle.wf_decode.proofs.OpenLegs.{opens_leg}
use Rattle.wf_decode.proofs.Ways.{way_sees}
use Rattle.wf_decode.proofs.HeldWays.{rows_none, rows_more, rows_all}
use Rattle.wf_decode.proofs.decision.ways.rows_up.Goals as goal

pub full_row-requires : goal.full_row-requires
full_row-requires g c = let w = c.requires in way_sees c.args.vl.now w.0 w.1 c.args.legs.now c.args.from.module.0 w.2 w.3

pub up_leg-requires : goal.up_leg-requires
up_leg-requires g c = let w = c.requires in opens_leg c.args.vl.now w.0 w.1 c.args.legs.now (c.loop-i.i - 1) _ w.2 w.3.held w.3.gone (omega arith)

pub loop-i-init : goal.loop-i-init
loop-i-init g c =
    rows_none c.args.vl.now c.args.legs.now c.args.from.module.0 c.args.from.port.0 (length c.args.legs.now + 1) c.full_row.result c.args.steps.now c.in_ok-rows.rows.items
    (c.in_ok-rows.ensures.items_if_clones_equal (λ y e. e)) c.full_row.ensures refl

pub loop-i-preserved : goal.loop-i-preserved
loop-i-preserved g c =
    rows_more c.args.vl.now c.args.legs.now c.args.from.module.0 c.loop-i.i _ (omega arith) (omega arith) c.args.from.port.0 c.loop-i.rows.items c.index.result.now c.up_leg.result c.args.steps.now c.loop-i.steps c.up_leg.new.steps
    c.loop-i.invariant c.index.ensures c.up_leg.ensures

pub returns-clause-rows : goal.returns-clause-rows
returns-clause-rows g c = rows_all c.args.vl.now c.args.legs.now c.args.from.module.0 c.args.from.port.0 c.loop-i.rows.items c.args.steps.now c.loop-i.steps c.loop-i.i (omega arith) c.loop-i.invariant
