use Rattle.std.proofs.Common.{◌≡◌, ◌-◌, ◌<◌, length, get_or, sym, subst, arith}
use Rattle.std.proofs.Math.ListN.{drop_of_length-le}
use Rattle.bool_mat.specs.Matrix.{IsUnion}
use Rattle.decode_model.specs.Legs.{each_up, leg_steps}
use Rattle.decode_model.specs.Rows.{Progress}
use Rattle.decode_model.proofs.RowProducts.{progress_law}
use Rattle.wf_recur.specs.Cycles.{step_of}
use Rattle.wf_vlabel.specs.Seen.{matrices_of}
use Rattle.wf_decode.specs.HeldLegs.{module_on, chain_from}
use Rattle.wf_decode.proofs.ChainSteps.{length-chain, step_at}
use Rattle.wf_decode.proofs.OpenLegs.{opens_at}
use Rattle.wf_decode.proofs.Progressing.{up_more}
use Rattle.wf_decode.proofs.rows.continuing.continuing_up.Goals as goal

pub loop-i-init : goal.loop-i-init
loop-i-init g c =
    let steps = leg_steps (chain_from c.args.vl.now.cycles c.args.cycle.0 c.args.place c.args.count) in
    let size = length-chain c.args.vl.now.cycles c.args.cycle.0 c.args.place c.requires.place c.args.count in
    subst (λ z. Progress (each_up (matrices_of c.args.vl.now) z) c.args.row c.args.row c.args.steps.now c.args.steps.now) (sym (drop_of_length-le steps (omega arith))) (progress_law.none c.args.row c.args.steps.now)

pub out_of_position-requires : goal.out_of_position-requires
out_of_position-requires g c =
    let t = c.args.vl.now.cycles in
    let k = c.args.cycle.0 in
    let j = c.args.place in
    let s = step_of c.continuing_step.result in
    let steps = leg_steps (chain_from t k j c.args.count) in
    let size = length-chain t k j c.requires.place c.args.count in
    let low : (c.loop-i.i - 1) < length steps = omega arith in
    opens_at c.args.vl.now (module_on t k j) steps (c.loop-i.i - 1) s s c.requires.open low (step_at t k j c.requires.place c.args.count (c.loop-i.i - 1) s c.continuing_step.ensures.told (omega arith))

pub loop-i-preserved : goal.loop-i-preserved
loop-i-preserved g c =
    let v = matrices_of c.args.vl.now in
    let t = c.args.vl.now.cycles in
    let k = c.args.cycle.0 in
    let j = c.args.place in
    let s = step_of c.continuing_step.result in
    let steps = leg_steps (chain_from t k j c.args.count) in
    let size = length-chain t k j c.requires.place c.args.count in
    let is : get_or steps (c.loop-i.i - 1) s ≡ s = step_at t k j c.requires.place c.args.count (c.loop-i.i - 1) s c.continuing_step.ensures.told (omega arith) in
    let product : IsUnion c.loop-i.row (v.out_of s) c.row_times-row.result = rw c.out_of_position.ensures.same at c.row_times-row.ensures.union in
    up_more v steps c.loop-i.i s c.args.row c.loop-i.row c.args.steps.now c.loop-i.steps c.row_times-row.result c.row_times-row.new.steps (omega arith) (omega arith) c.loop-i.invariant
    (subst (λ z. IsUnion c.loop-i.row (v.out_of z) c.row_times-row.result) (sym is) product) c.row_times-row.ensures.cost
