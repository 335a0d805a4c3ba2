use Rattle.std.proofs.Common.{◌≡◌, ◌++◌, ◌∷◌, [], refl, sym, ◌∙◌, ap, map, length}
use Rattle.std.proofs.lemmas.List.{length-map}
use Rattle.std.proofs.lemmas.Result.{err_from_is_err_and}
use Rattle.bool_mat.specs.Pool.{matrix_in}
use Rattle.bool_mat.proofs.Pools.{view_append, all_stored_push, view_push, adds_one}
use Rattle.bool_mat.proofs.pool.MatPool.push.Goals as goal

pub returns-in_err-push-clause-err : goal.returns-in_err-push-clause-err
returns-in_err-push-clause-err c =
    let p = err_from_is_err_and c.from_residual-in_err-push.result c.from_residual-in_err-push.ensures.1 in
    let words : c.extend_from_slice.new.self.items ≡ c.self.inside.words.items ++ c.args.rows.now = c.in_ok-extend_from_slice.ensures.items in
    let shapes : c.push.new.self.items ≡ c.self.inside.shapes.items = c.in_err-push.ensures.items ∙ c.reserve.ensures.items in
    rw p.1
    (ap (λ ws. map (matrix_in ws) c.push.new.self.items) words ∙
    (ap (map (matrix_in (c.self.inside.words.items ++ c.args.rows.now))) shapes ∙
    (view_append c.self.inside.words.items c.args.rows.now c.self.inside.shapes.items c.self.invariant ∙ c.self.view_is)))

pub invariant_of-self-2 : goal.invariant_of-self-2
invariant_of-self-2 c = rw (c.in_ok-push.ensures.items, c.reserve.ensures.items, c.in_ok-extend_from_slice.ensures.items) (all_stored_push c.self.inside.words.items c.args.rows.now c.self.inside.shapes.items (record { start = c.len-start.result; rows = _; columns = c.args.columns }) c.self.invariant (c.len-start.ensures ∙ c.self.inside.words.ok.0) refl c.requires)

pub returns-clause-added : goal.returns-clause-added
returns-clause-added c =
    let added : map (matrix_in c.extend_from_slice.new.self.items) c.push.new.self.items ≡ c.args.self.now ++ record { rows = c.args.rows.now; columns = c.args.columns } ∷ [] =
    rw (c.in_ok-push.ensures.items, c.reserve.ensures.items, c.in_ok-extend_from_slice.ensures.items, ← c.self.view_is) (view_push c.self.inside.words.items c.args.rows.now c.self.inside.shapes.items (record { start = c.len-start.result; rows = _; columns = c.args.columns }) c.self.invariant (c.len-start.ensures ∙ c.self.inside.words.ok.0) refl) in
    let count : c.len.result ≡ length c.args.self.now =
    c.len.ensures ∙ (c.self.inside.shapes.ok.0 ∙ (sym (length-map c.self.inside.shapes.items (matrix_in c.self.inside.words.items)) ∙ ap length c.self.view_is)) in
    adds_one c.args.self.now _ (record { rows = c.args.rows.now; columns = c.args.columns }) c.len.result count added
