use Rattle.std.proofs.Common.{◌≡◌, ◌<◌, ◌∙◌, map, length, get_or, take, ap, sym, subst, arith}
use Rattle.std.proofs.Math.Seq.{take-length}
use Rattle.bool_mat.specs.Matrix.{IsUnion}
use Rattle.decode_model.specs.Legs.{leg_steps}
use Rattle.decode_model.specs.Rows.{Progress}
use Rattle.wf_recur.specs.Cycles.{step_of}
use Rattle.wf_vlabel.specs.Seen.{matrices_of}
use Rattle.wf_decode.specs.HeldLegs.{module_on, chain_from}
use Rattle.wf_decode.proofs.ChainSteps.{length-chain, step_at}
use Rattle.wf_decode.proofs.OpenLegs.{opens_at}
use Rattle.wf_decode.proofs.Progressing.{down_more}
use Rattle.wf_decode.proofs.rows.continuing.continuing_down.Goals as goal

pub into_position-requires : goal.into_position-requires
into_position-requires g c =
    let t = c.args.vl.now.cycles in
    let k = c.args.cycle.0 in
    let j = c.args.place in
    let s = step_of c.continuing_step.result in
    let steps = leg_steps (chain_from t k j c.args.count) in
    let size = length-chain t k j c.requires.place c.args.count in
    let low : c.loop-i.i < length steps = omega arith in
    opens_at c.args.vl.now (module_on t k j) steps c.loop-i.i s s c.requires.open low (step_at t k j c.requires.place c.args.count c.loop-i.i s c.continuing_step.ensures.told (omega arith))

pub loop-i-preserved : goal.loop-i-preserved
loop-i-preserved g c =
    let v = matrices_of c.args.vl.now in
    let t = c.args.vl.now.cycles in
    let k = c.args.cycle.0 in
    let j = c.args.place in
    let s = step_of c.continuing_step.result in
    let steps = leg_steps (chain_from t k j c.args.count) in
    let size = length-chain t k j c.requires.place c.args.count in
    let is : get_or steps c.loop-i.i s ≡ s = step_at t k j c.requires.place c.args.count c.loop-i.i s c.continuing_step.ensures.told (omega arith) in
    let product : IsUnion c.loop-i.row (v.into s) c.row_times-row.result = rw c.into_position.ensures.same at c.row_times-row.ensures.union in
    down_more v.into steps c.loop-i.i s c.args.row c.loop-i.row c.args.steps.now c.loop-i.steps c.row_times-row.result c.row_times-row.new.steps (omega arith) c.loop-i.invariant
    (subst (λ z. IsUnion c.loop-i.row (v.into z) c.row_times-row.result) (sym is) product) c.row_times-row.ensures.cost

pub returns : goal.returns
returns g c =
    let v = matrices_of c.args.vl.now in
    let steps = leg_steps (chain_from c.args.vl.now.cycles c.args.cycle.0 c.args.place c.args.count) in
    let size = length-chain c.args.vl.now.cycles c.args.cycle.0 c.args.place c.requires.place c.args.count in
    let e : c.loop-i.i ≡ length steps = omega arith in
    subst (λ z. Progress (map v.into z) c.args.row c.loop-i.row c.args.steps.now c.loop-i.steps) (ap (λ k. take k steps) e ∙ take-length steps) c.loop-i.invariant
