use Rattle.std.proofs.Common.{subst}
use Rattle.bool_mat.specs.Matrix.{IsUnion}
use Rattle.wf_vlabel.specs.Seen.{matrices_of}
use Rattle.wf_decode.proofs.RowBits.{bit_of_one}
use Rattle.wf_decode.proofs.decision.legs_left.ends_in.Goals as goal

pub returns : goal.returns
returns g c =
    let m = (matrices_of c.args.vl.now).full c.args.to.module.0 in
    bit_of_one m c.args.row c.row_times-last.result c.args.steps.now c.row_times-last.new.steps c.args.to.port.0 c.has_column.result
    (subst (λ z. IsUnion c.args.row z c.row_times-last.result) c.full.ensures.same c.row_times-last.ensures.union) c.row_times-last.ensures.cost c.has_column.ensures
