use Rattle.std.proofs.Common.{[], ◌∙◌}
use Rattle.wf_stage.proofs.Ends.{begins_nothing}
use Rattle.wf_stage.proofs.Writing.{writes_wanting}
use Rattle.cmd_explain.proofs.put.put_counted.Goals as goal

pub returns-in_default : goal.returns-in_default
returns-in_default g c = record { writes = λ u es y of held of_y y_is. writes_wanting [] _ (begins_nothing _) _ }

pub returns : goal.returns
returns g c = record { writes = λ u es y of held of_y y_is. c.put_end-ended.ensures.writes u es y of held of_y (c.in-Ok.ensures.bits ∙ y_is) }
