use Rattle.std.proofs.Common.{refl}
use Rattle.wf_lines.proofs.Makings.{told_or}
use Rattle.wf_lines.proofs.lines.begin_line.Goals as goal

pub returns-in-Err-put_made-clause-stopped : goal.returns-in-Err-put_made-clause-stopped
returns-in-Err-put_made-clause-stopped g c = λ s at.
    let t = g.T.Taker in
    let made = t.made c.take.new.self in
    (refl, (made, told_or (λ e. t.stops s c.args.number c.args.text.now e made) t.end_of c.in-Err.fault (λ e is. c.in-Err.ensures.stopped e is s at) (λ none. c.in-Err.ensures.wanting none s at), c.in-Err-put_made.ensures.begun refl))
