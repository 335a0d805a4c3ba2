use Rattle.std.proofs.Common.{sym, subst}
use Rattle.decode_model.specs.Legs.{leg_up}
use Rattle.decode_model.specs.Rows.{Progress}
use Rattle.wf_recur.specs.Cycles.{step_of}
use Rattle.wf_vlabel.specs.Seen.{matrices_of}
use Rattle.wf_decode.specs.HeldLegs.{leg_of}
use Rattle.wf_decode.proofs.Progressing.{progress_one}
use Rattle.wf_decode.proofs.rows.up_leg.Goals as goal

pub returns-in-Into : goal.returns-in-Into
returns-in-Into g c =
    let v = matrices_of c.args.vl.now in
    subst (λ leg. Progress (leg_up v (leg_of c.args.vl.now leg)) c.args.row c.row_times.result c.args.steps.now c.row_times.new.steps) (sym c.in-Into.is)
    (progress_one (v.out_of (step_of c.in-Into.step)) c.args.row c.row_times.result c.args.steps.now c.row_times.new.steps (rw c.out_of_position.ensures.same at c.row_times.ensures.union) c.row_times.ensures.cost)
