use Rattle.std.proofs.Common.{refl, inr}
use Rattle.wf_lines.proofs.Makings.{told_or}
use Rattle.wf_lines.proofs.lines.take_end.Goals as goal

pub returns-in-Err-put-2-clause-stopped : goal.returns-in-Err-put-2-clause-stopped
returns-in-Err-put-2-clause-stopped g c = λ s at.
    (refl, (g.T.Taker.made c.finish-end.new.self, inr (told_or (λ e. g.T.Taker.stops_at_end s e (g.T.Taker.made c.finish-end.new.self)) g.T.Taker.end_of c.in-Err.fault (λ e is. c.in-Err.ensures.stopped e is s at) (λ none. (c.in-Err.ensures.memory none).1)), c.in-Err-put-2.ensures.begun refl))
