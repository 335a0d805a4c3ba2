use Rattle.std.proofs.Common.{◌≡◌, length, take, subst, sym, ◌∙◌, arith, refl, length-set}
use Rattle.std.proofs.lemmas.Result.{IfOk-weaker}
use Rattle.bool_mat.specs.Matrix.{Matrix, IsProduct, matrix_at}
use Rattle.bool_mat.specs.declared.pool.MatNo.{MatNo}
use Rattle.bool_mat.proofs.Products.{Made, made_none, made_more, front_is_matrix, product_made}
use Rattle.bool_mat.proofs.compose.product.Goals as goal

pub loop-i-init : goal.loop-i-init
loop-i-init c = record { made = made_none _ _ _; room = refl }

pub loop-i-preserved : goal.loop-i-preserved
loop-i-preserved c =
    let few = c.left.invariant.few_rows in
    let room = c.loop-i.invariant.room in
    let test = c.loop-i-test.true in
    record {
      made = made_more (record { rows = c.left.inside.rows.now; columns = c.left.inside.columns }) (record { rows = c.right.inside.rows.now; columns = c.right.inside.columns }) c.loop-i.rows c.loop-i.i c.union.result c.loop-i.invariant.made (omega arith) c.union.ensures.union c.union.ensures.within;
      room = length-set c.loop-i.rows c.loop-i.i c.union.result ∙ room;
    }

pub push-requires : goal.push-requires
push-requires c =
    let few = c.left.invariant.few_rows in
    let e : c.loop-i.i ≡ length c.left.inside.rows.now = omega arith in
    let made = subst (λ z. Made (record { rows = c.left.inside.rows.now; columns = c.left.inside.columns }) (record { rows = c.right.inside.rows.now; columns = c.right.inside.columns }) c.loop-i.rows z) e c.loop-i.invariant.made in
    front_is_matrix c.loop-i.rows (length c.left.inside.rows.now) c.right.inside.columns made.within c.loop-i.invariant.room few c.right.invariant.few_columns

pub returns-clause-product : goal.returns-clause-product
returns-clause-product c =
    let e : c.loop-i.i ≡ length c.left.inside.rows.now = omega arith in
    let left : Matrix = record { rows = c.left.inside.rows.now; columns = c.left.inside.columns } in
    let right : Matrix = record { rows = c.right.inside.rows.now; columns = c.right.inside.columns } in
    let made : Made left right c.loop-i.rows (length c.left.inside.rows.now) = subst (λ z. Made left right c.loop-i.rows z) e c.loop-i.invariant.made in
    let whole : IsProduct left right (record { rows = take (length c.left.inside.rows.now) c.loop-i.rows; columns = c.right.inside.columns }) = product_made left right c.loop-i.rows (length c.left.inside.rows.now) c.left.invariant c.right.invariant c.loop-i.invariant.room refl made in
    let el : left ≡ matrix_at c.args.pool.now c.args.a.0 = c.left.view_is ∙ c.get-left.ensures.same in
    let er : right ≡ matrix_at c.args.pool.now c.args.b.0 = c.right.view_is ∙ c.get-right.ensures.same in
    IfOk-weaker c.push.result (λ (m : MatNo). matrix_at c.push.new.self m.0 ≡ record { rows = take (length c.left.inside.rows.now) c.loop-i.rows; columns = c.right.inside.columns })
    (λ (m : MatNo). IsProduct (matrix_at c.args.pool.now c.args.a.0) (matrix_at c.args.pool.now c.args.b.0) (matrix_at c.push.new.self m.0))
    (λ m h. subst (λ z. IsProduct (matrix_at c.args.pool.now c.args.a.0) (matrix_at c.args.pool.now c.args.b.0) z) (sym h) (subst (λ z. IsProduct (matrix_at c.args.pool.now c.args.a.0) z (record { rows = take (length c.left.inside.rows.now) c.loop-i.rows; columns = c.right.inside.columns })) er (subst (λ z. IsProduct z right (record { rows = take (length c.left.inside.rows.now) c.loop-i.rows; columns = c.right.inside.columns })) el whole)))
    c.push.ensures.pushed
