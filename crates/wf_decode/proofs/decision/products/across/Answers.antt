use Rattle.std.proofs.Common.{[], ◌∷◌, ◌++◌, drop, get_or, sym, subst}
use Rattle.bool_mat.specs.Matrix.{IsUnion}
use Rattle.wf_recur.specs.Cycles.{step_of}
use Rattle.decode_model.specs.Legs.{way_down, way_up}
use Rattle.wf_vlabel.specs.Seen.{matrices_of}
use Rattle.wf_decode.specs.HeldLegs.{legs_of}
use Rattle.wf_decode.specs.Products.{IsBit}
use Rattle.wf_decode.proofs.RowBits.{after_products, bit_after}
use Rattle.wf_decode.proofs.decision.products.across.Goals as goal
use Rattle.wf_decode.proofs.Progressing.{progress_one}

pub returns : goal.returns
returns g c =
    let l = c.args.vl.now in
    let v = matrices_of l in
    let s = step_of c.args.first in
    let t = step_of c.args.second in
    let down = way_down v (legs_of l (drop c.args.to.from c.args.to.legs.now)) in
    let ups = way_up v (legs_of l (drop c.args.from.from c.args.from.legs.now)) in
    let beside = v.between s t.position in
    let n = c.args.to.at.module.0 in
    let o = c.args.to.at.port.0 in
    let above = c.row_up-above.result in
    let row = c.row_times-beside.result in
    let first = get_or (v.full c.args.from.at.module.0).rows c.args.from.at.port.0 0 in
    let then = c.row_up-above.new.steps in
    let later = c.row_times-beside.new.steps in
    let one = progress_one beside above row then later (subst (λ z. IsUnion above z row) c.between.ensures.same c.row_times-beside.ensures.union) c.row_times-beside.ensures.cost in
    let rest = bit_after (beside ∷ []) (down ++ v.full n ∷ []) above row then later c.comes_to.new.steps o c.comes_to.result (after_products (beside ∷ []) above row then later one) c.comes_to.ensures in
    let full = bit_after ups (beside ∷ (down ++ v.full n ∷ [])) first above c.args.steps.now then c.comes_to.new.steps o c.comes_to.result c.row_up-above.ensures rest in
    subst (λ z. IsBit (ups ++ (beside ∷ (down ++ v.full z ∷ []))) first c.args.steps.now c.comes_to.new.steps o c.comes_to.result) (sym c.requires.ways.2.second.leads) full
