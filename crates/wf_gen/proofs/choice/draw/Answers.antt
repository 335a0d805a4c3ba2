use Rattle.wf_gen.proofs.Drawing.{is_draw, is_drawn}
use Rattle.wf_gen.proofs.choice.draw.Goals as goal

pub returns-clause-draw : goal.returns-clause-draw
returns-clause-draw c = is_draw _ _ _ c.next_word.ensures

pub returns-clause-drawn : goal.returns-clause-drawn
returns-clause-drawn c = is_drawn _ _ _ c.next_word.ensures
