use Rattle.std.proofs.Common.{◌++◌, subst}
use Rattle.wf_lines.specs.Taking.{IsCut}
use Rattle.wf_lines.proofs.Dues.{due_cut}
use Rattle.wf_lines.proofs.lines.put_made.Goals as goal

pub returns-clause-begun : goal.returns-clause-begun
returns-clause-begun g c = λ failed.
    subst (λ x. IsCut (c.args.due.now ++ x) (g.O.Sink.put_bytes c.args.out.now) (g.O.Sink.put_bytes c.put.new.out)) c.made.ensures (due_cut _ _ _ _ _ c.in_ok-add.ensures.ok (c.put.ensures.err failed))
