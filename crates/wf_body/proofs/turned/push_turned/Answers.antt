use Rattle.std.proofs.Common.{◌≡◌, ◌<◌, length, take, subst, sym, ◌∙◌, arith, refl, length-set, get_or, IsTrue}
use Rattle.std.proofs.lemmas.Result.{IfOk-weaker}
use Rattle.bool_mat.specs.Matrix.{has, matrix_at}
use Rattle.bool_mat.specs.declared.pool.MatNo.{MatNo}
use Rattle.bool_mat.proofs.Products.{Turned, turned_none, turned_more, front_is_matrix}
use Rattle.wf_body.specs.Matrices.{IsMatrixOf}
use Rattle.wf_body.proofs.Turning.{columns_of, turned_words}
use Rattle.wf_body.proofs.turned.push_turned.Goals as goal

pub loop-i-init : goal.loop-i-init
loop-i-init c = record { turned = turned_none _ _; room = refl }

pub loop-i-preserved : goal.loop-i-preserved
loop-i-preserved c =
    let few = c.requires.sources in
    let room = c.loop-i.invariant.room in
    let test = c.loop-i-test.true in
    record {
      turned = turned_more (columns_of c.args.words.now) c.loop-i.rows c.loop-i.i c.column.result c.loop-i.invariant.turned (omega arith) c.column.ensures.pairs c.column.ensures.within;
      room = length-set c.loop-i.rows c.loop-i.i c.column.result ∙ room;
    }

pub push-requires : goal.push-requires
push-requires c =
    let few = c.requires.sources in
    let e : c.loop-i.i ≡ c.args.sources = omega arith in
    let turned = subst (λ z. Turned (columns_of c.args.words.now) c.loop-i.rows z) e c.loop-i.invariant.turned in
    front_is_matrix c.loop-i.rows c.args.sources (length c.args.words.now) turned.within c.loop-i.invariant.room few c.requires.words

pub returns-clause-turned : goal.returns-clause-turned
returns-clause-turned c =
    let few = c.requires.sources in
    let e : c.loop-i.i ≡ c.args.sources = omega arith in
    let turned : Turned (columns_of c.args.words.now) c.loop-i.rows c.args.sources = subst (λ z. Turned (columns_of c.args.words.now) c.loop-i.rows z) e c.loop-i.invariant.turned in
    let whole = turned_words c.args.words.now c.loop-i.rows c.args.sources c.loop-i.invariant.room few c.requires.words turned in
    IfOk-weaker c.push.result (λ (m : MatNo). matrix_at c.push.new.self m.0 ≡ record { rows = take c.args.sources c.loop-i.rows; columns = length c.args.words.now })
    (λ (m : MatNo). IsMatrixOf c.args.sources (length c.args.words.now) (λ i j. (i < c.args.sources) × IsTrue (has (get_or c.args.words.now j 0) i)) (matrix_at c.push.new.self m.0))
    (λ m h. subst (IsMatrixOf c.args.sources (length c.args.words.now) (λ i j. (i < c.args.sources) × IsTrue (has (get_or c.args.words.now j 0) i))) (sym h) whole)
    c.push.ensures.pushed
