use Rattle.std.proofs.Common.{◌≡◌, ◌+◌, arith}
use Rattle.wf_body.specs.Matrices.{step_of}
use Rattle.wf_vlabel.specs.Tables.{begins}
use Rattle.wf_vlabel.proofs.OpenSteps.{reads}
use Rattle.wf_vlabel.proofs.Sizes.{out_of_size}
use Rattle.wf_vlabel.proofs.view_label.ViewLabel.out_of_position.Goals as goal

pub matrix-requires : goal.matrix-requires
matrix-requires c =
    let e : c.begins.result + 1 ≡ begins c.args.self.now.grammar (step_of c.args.s) + 1 = omega (arith, c.begins.ensures.begins) in
    reads _ c.args.self.now _ _ (step_of c.args.s) 1 _ c.self.invariant c.self.view_is c.requires (omega arith) e

pub returns-clause-size : goal.returns-clause-size
returns-clause-size c =
    let e : c.begins.result + 1 ≡ begins c.args.self.now.grammar (step_of c.args.s) + 1 = omega (arith, c.begins.ensures.begins) in
    out_of_size _ c.args.self.now _ _ c.self.invariant c.self.view_is (step_of c.args.s) (c.begins.result + 1) c.matrix.result c.requires c.matrix.ensures.same e
