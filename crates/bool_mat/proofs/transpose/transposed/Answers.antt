use Rattle.std.proofs.Common.{◌≡◌, length, take, subst, sym, ◌∙◌, arith, refl, length-set}
use Rattle.std.proofs.lemmas.Result.{IfOk-weaker}
use Rattle.bool_mat.specs.Matrix.{Matrix, IsTransposed, matrix_at}
use Rattle.bool_mat.specs.declared.pool.MatNo.{MatNo}
use Rattle.bool_mat.proofs.Products.{Turned, turned_none, turned_more, front_is_matrix, transposed_turned}
use Rattle.bool_mat.proofs.transpose.transposed.Goals as goal

pub loop-j-init : goal.loop-j-init
loop-j-init c = record { turned = turned_none _ _; room = refl }

pub loop-j-preserved : goal.loop-j-preserved
loop-j-preserved c =
    let few = c.turned.invariant.few_columns in
    let room = c.loop-j.invariant.room in
    let test = c.loop-j-test.true in
    record {
      turned = turned_more (record { rows = c.turned.inside.rows.now; columns = c.turned.inside.columns }) c.loop-j.rows c.loop-j.j c.column.result c.loop-j.invariant.turned (omega arith) c.column.ensures.pairs c.column.ensures.within;
      room = length-set c.loop-j.rows c.loop-j.j c.column.result ∙ room;
    }

pub push-requires : goal.push-requires
push-requires c =
    let few = c.turned.invariant.few_columns in
    let e : c.loop-j.j ≡ c.turned.inside.columns = omega arith in
    let turned = subst (λ z. Turned (record { rows = c.turned.inside.rows.now; columns = c.turned.inside.columns }) c.loop-j.rows z) e c.loop-j.invariant.turned in
    front_is_matrix c.loop-j.rows c.turned.inside.columns (length c.turned.inside.rows.now) turned.within c.loop-j.invariant.room few c.turned.invariant.few_rows

pub returns-clause-transposed : goal.returns-clause-transposed
returns-clause-transposed c =
    let e : c.loop-j.j ≡ c.turned.inside.columns = omega arith in
    let before : Matrix = record { rows = c.turned.inside.rows.now; columns = c.turned.inside.columns } in
    let turned : Turned before c.loop-j.rows c.turned.inside.columns = subst (λ z. Turned before c.loop-j.rows z) e c.loop-j.invariant.turned in
    let whole = transposed_turned before c.loop-j.rows c.turned.inside.columns c.turned.invariant c.loop-j.invariant.room refl turned in
    let eb : before ≡ matrix_at c.args.pool.now c.args.a.0 = c.turned.view_is ∙ c.get-turned.ensures.same in
    IfOk-weaker c.push.result (λ (m : MatNo). matrix_at c.push.new.self m.0 ≡ record { rows = take c.turned.inside.columns c.loop-j.rows; columns = length c.turned.inside.rows.now })
    (λ (m : MatNo). IsTransposed (matrix_at c.args.pool.now c.args.a.0) (matrix_at c.push.new.self m.0))
    (λ m h. subst (λ z. IsTransposed (matrix_at c.args.pool.now c.args.a.0) z) (sym h) (subst (λ z. IsTransposed z (record { rows = take c.turned.inside.columns c.loop-j.rows; columns = length c.turned.inside.rows.now })) eb whole))
    c.push.ensures.pushed
