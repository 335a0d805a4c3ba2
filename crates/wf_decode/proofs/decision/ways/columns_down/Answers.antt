use Rattle.std.proofs.Common.{◌+◌, ◌-◌, IsTrue, length, refl, ◌∙◌, subst, arith}
use Rattle.bool_mat.specs.Matrix.{has, Joined}
use Rattle.wf_decode.proofs.OpenLegs.{opens_leg}
use Rattle.wf_decode.proofs.Ways.{way_sees}
use Rattle.wf_decode.proofs.HeldWays.{columns_none, columns_more, columns_all}
use Rattle.wf_decode.proofs.decision.ways.columns_down.Goals as goal

pub full-requires : goal.full-requires
full-requires g c = let w = c.requires.way in way_sees c.args.vl.now w.0 w.1 c.args.legs.now c.args.to.module.0 w.2 w.3

pub column_before-requires : goal.column_before-requires
column_before-requires g c = let w = c.requires.way in opens_leg c.args.vl.now w.0 w.1 c.args.legs.now (c.loop-i.i - 1) _ w.2 w.3.held w.3.gone (omega arith)

pub loop-i-init : goal.loop-i-init
loop-i-init g c =
    let o = c.args.to.port.0 in
    let column = c.column-last.result in
    columns_none c.args.vl.now c.args.legs.now c.args.to.module.0 o (length c.args.legs.now + 1) column c.args.steps.now c.in_ok-columns.columns.items (c.in_ok-columns.ensures.items_if_clones_equal (λ y e. e))
    (λ i. subst (λ z. (IsTrue (has column i) → Joined z i o) × (Joined z i o → IsTrue (has column i))) (c.full-2.view_is ∙ c.full.ensures.same) (c.column-last.ensures.pairs i)) refl

pub loop-i-preserved : goal.loop-i-preserved
loop-i-preserved g c =
    columns_more c.args.vl.now c.args.legs.now c.args.to.module.0 c.loop-i.i _ (omega arith) (omega arith) c.args.to.port.0 c.loop-i.columns.items c.index.result.now c.column_before.result c.args.steps.now c.loop-i.steps c.column_before.new.steps
    c.loop-i.invariant c.index.ensures c.column_before.ensures.column c.column_before.ensures.cost

pub returns-clause-columns : goal.returns-clause-columns
returns-clause-columns g c = columns_all c.args.vl.now c.args.legs.now c.args.to.module.0 c.args.to.port.0 c.loop-i.columns.items c.args.steps.now c.loop-i.steps c.loop-i.i (omega arith) c.loop-i.invariant
