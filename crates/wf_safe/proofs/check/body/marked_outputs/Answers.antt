use Rattle.std.proofs.Common.{◌≡◌, ◌↔◌, ◌+◌, ◌^◌, ◌∙◌, ℕ, IsTrue, None, true, false, true≢false, get_or, sym, ap, subst}
use Rattle.wf_model.specs.Links.{output}
use Rattle.bool_mat.specs.Matrix.{has}
use Rattle.wf_safe.specs.BodyGraph.{port_of, vertex_of}
use Rattle.wf_safe.specs.declared.check.ports.Port.{Port}
use Rattle.wf_safe.proofs.BodyRows.{IsRowOf, row_none, row_in, row_out}
use Rattle.wf_safe.proofs.check.body.marked_outputs.Goals as goal
use Rattle.wf_safe.proofs.check.body.marked_outputs.Goals.{then-marks-at, else-marks-at}

pub loop-o-init : goal.loop-o-init
loop-o-init c = row_none (λ o. get_or c.args.marks.now (vertex_of (output None o)) false ≡ true)

pub loop-o-preserved : goal.loop-o-preserved
loop-o-preserved c =
    let marks = c.args.marks.now in
    let o = c.loop-o.o in
    let P = λ (k : ℕ). get_or marks (vertex_of (output None k)) false ≡ true in
    let place : c.vertex-at.result ≡ vertex_of (output None o) = c.vertex-at.ensures ∙ ap (λ (x : Port). vertex_of (port_of x)) c.output_port.ensures in
    elim c.if-marks-at.branch [
      | then-marks-at w ↦ subst (IsRowOf P (o + 1)) (sym w.row-is)
          (row_in P o c.loop-o.row w.single-row.result c.loop-o.invariant (subst (λ v. get_or marks v false ≡ true) place w.if-marks-at.true)
          (subst (λ n. (k : ℕ) → IsTrue (has w.single-row.result k) ↔ (k ≡ n)) w.from.ensures w.single-row.ensures.columns) (w.single-row.ensures.within ∙ ap (λ n. 2 ^ n) w.from.ensures))
      | else-marks-at w ↦ subst (IsRowOf P (o + 1)) (sym w.row-is)
          (row_out P o c.loop-o.row c.loop-o.invariant (λ t. true≢false (sym (subst (λ v. get_or marks v false ≡ true) (sym place) t) ∙ w.if-marks-at.false)))
    ]
