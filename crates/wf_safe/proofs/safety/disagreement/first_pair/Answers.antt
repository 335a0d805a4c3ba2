use Rattle.std.proofs.Common.{◌≡◌, None, get_or, sym, ap, ◌∙◌, subst, arith}
use Rattle.wf_model.specs.Grammar.{Production, head_of, inputs_of, outputs_of}
use Rattle.wf_model.specs.Meaning.{pairs_of}
use Rattle.wf_model.specs.Safe.{BodyJoins}
use Rattle.bool_mat.specs.Matrix.{Matrix}
use Rattle.wf_body.specs.Matrices.{IsMatrixOf, HasRows}
use Rattle.wf_safe.proofs.Comparing.{as_many, body_rows, compared}
use Rattle.wf_safe.proofs.SeenBelow.{seen_expanded_head}
use Rattle.wf_view.proofs.KnownViews.{held}
use Rattle.wf_safe.proofs.safety.disagreement.first_pair.Goals as goal

pub induced-requires-clause-rows : goal.induced-requires-clause-rows
induced-requires-clause-rows c =
    let g = c.args.v.grammar.now.core in
    let v = c.args.v.view.now in
    let p = c.args.p.0 in
    let e : c.head-head.result.0 ≡ head_of g p = c.head-head.ensures ∙ ap (λ (r : Production). r.head) c.production.ensures.core in
    let known = seen_expanded_head g v p c.head-head.result.0 c.production.ensures.formed (held g v c.args.v.held) c.requires.production e (sym c.is_seen_expanded.ensures ∙ c.if-not-is_seen_expanded.false) in
    body_rows g v.core p c.args.deps.now c.requires.rows c.requires.production known

pub first_difference-requires-clause-same : goal.first_difference-requires-clause-same
first_difference-requires-clause-same c =
    let g = c.args.v.grammar.now.core in
    let v = c.args.v.view.now in
    let p = c.args.p.0 in
    let deps = c.args.deps.now in
    let e : c.head-head.result.0 ≡ head_of g p = c.head-head.ensures ∙ ap (λ (r : Production). r.head) c.production.ensures.core in
    let known = seen_expanded_head g v p c.head-head.result.0 c.production.ensures.formed (held g v c.args.v.held) c.requires.production e (sym c.is_seen_expanded.ensures ∙ c.if-not-is_seen_expanded.false) in
    let matrix : Matrix = record { rows = c.matrix.inside.rows.now; columns = c.matrix.inside.columns } in
    as_many g v.core p deps c.rows_of.result.now matrix (c.requires.rows (head_of g p) known.0) (c.rows_of.ensures ∙ ap (λ k. get_or deps k None) e)
    (subst (IsMatrixOf (inputs_of g (head_of g p)) (outputs_of g (head_of g p)) (BodyJoins g (pairs_of deps) p)) (sym (c.matrix.view_is ∙ c.get-matrix.ensures.same)) c.in_ok-number.ensures.induced)

pub returns : goal.returns
returns c =
    let g = c.args.v.grammar.now.core in
    let v = c.args.v.view.now in
    let p = c.args.p.0 in
    let deps = c.args.deps.now in
    let e : c.head-head.result.0 ≡ head_of g p = c.head-head.ensures ∙ ap (λ (r : Production). r.head) c.production.ensures.core in
    let known = seen_expanded_head g v p c.head-head.result.0 c.production.ensures.formed (held g v c.args.v.held) c.requires.production e (sym c.is_seen_expanded.ensures ∙ c.if-not-is_seen_expanded.false) in
    let matrix : Matrix = record { rows = c.matrix.inside.rows.now; columns = c.matrix.inside.columns } in
    compared g v.core p deps c.rows_of.result.now matrix (c.requires.rows (head_of g p) known.0) (c.rows_of.ensures ∙ ap (λ k. get_or deps k None) e)
    (subst (IsMatrixOf (inputs_of g (head_of g p)) (outputs_of g (head_of g p)) (BodyJoins g (pairs_of deps) p)) (sym (c.matrix.view_is ∙ c.get-matrix.ensures.same)) c.in_ok-number.ensures.induced)
    c.first_difference.result known c.first_difference.ensures

pub rows_of-requires : goal.rows_of-requires
rows_of-requires c =
    let g = c.args.v.grammar.now.core in
    let v = c.args.v.view.now in
    let p = c.args.p.0 in
    let e : c.head-head.result.0 ≡ head_of g p = c.head-head.ensures ∙ ap (λ (r : Production). r.head) c.production.ensures.core in
    let known = seen_expanded_head g v p c.head-head.result.0 c.production.ensures.formed (held g v c.args.v.held) c.requires.production e (sym c.is_seen_expanded.ensures ∙ c.if-not-is_seen_expanded.false) in
    (g, subst (HasRows g c.args.deps.now) (sym e) (c.requires.rows (head_of g p) known.0))

pub first_difference-requires-clause-few : goal.first_difference-requires-clause-few
first_difference-requires-clause-few c =
    let same = first_difference-requires-clause-same c in
    let few = c.matrix.invariant.few_rows in
    omega (arith, same, few)
