use Rattle.std.proofs.lemmas.Result.{IfOk-weaker}
use Rattle.wf_model.specs.Grammar.{head_of, outputs_of}
use Rattle.wf_model.specs.Meaning.{pairs_of}
use Rattle.wf_model.specs.Reach.{OutOf, target_of}
use Rattle.bool_mat.specs.Matrix.{matrix_at}
use Rattle.bool_mat.specs.declared.pool.MatNo.{MatNo}
use Rattle.wf_body.specs.Matrices.{IsMatrixOf, step_of}
use Rattle.wf_body.proofs.Calls.{out_matrix}
use Rattle.wf_body.proofs.ends.out_of_position.Goals as goal

pub returns-clause-out_of : goal.returns-clause-out_of
returns-clause-out_of c =
    IfOk-weaker c.push_to_exits.result _
    (λ (m : MatNo). IsMatrixOf (outputs_of c.args.g.now.core (target_of c.args.g.now.core (step_of c.args.s))) (outputs_of c.args.g.now.core (head_of c.args.g.now.core c.args.s.production.0)) (OutOf c.args.g.now.core (pairs_of c.args.deps.now) (step_of c.args.s)) (matrix_at c.push_to_exits.new.pool m.0))
    (λ m h. out_matrix c.args.g.now.core (pairs_of c.args.deps.now) c.args.s.production.0 c.args.s.position (matrix_at c.push_to_exits.new.pool m.0) (c.push_to_exits.ensures.formed.bodies c.args.s.production.0 c.requires.production) h)
    c.push_to_exits.ensures.leads
