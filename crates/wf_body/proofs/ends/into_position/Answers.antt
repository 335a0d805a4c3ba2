use Rattle.std.proofs.lemmas.Result.{IfOk-weaker}
use Rattle.wf_model.specs.Grammar.{head_of, inputs_of}
use Rattle.wf_model.specs.Meaning.{pairs_of}
use Rattle.wf_model.specs.Reach.{Into, target_of}
use Rattle.bool_mat.specs.Matrix.{matrix_at}
use Rattle.bool_mat.specs.declared.pool.MatNo.{MatNo}
use Rattle.wf_body.specs.Matrices.{IsMatrixOf, step_of}
use Rattle.wf_body.proofs.Calls.{into_matrix}
use Rattle.wf_body.proofs.ends.into_position.Goals as goal

pub returns-clause-into : goal.returns-clause-into
returns-clause-into c =
    IfOk-weaker c.push_to_inputs.result _
    (λ (m : MatNo). IsMatrixOf (inputs_of c.args.g.now.core (head_of c.args.g.now.core c.args.s.production.0)) (inputs_of c.args.g.now.core (target_of c.args.g.now.core (step_of c.args.s))) (Into c.args.g.now.core (pairs_of c.args.deps.now) (step_of c.args.s)) (matrix_at c.push_to_inputs.new.pool m.0))
    (λ m h. into_matrix c.args.g.now.core (pairs_of c.args.deps.now) (step_of c.args.s) (matrix_at c.push_to_inputs.new.pool m.0) (c.push_to_inputs.ensures.formed.bodies c.args.s.production.0 c.requires.production) h)
    c.push_to_inputs.ensures.leads
