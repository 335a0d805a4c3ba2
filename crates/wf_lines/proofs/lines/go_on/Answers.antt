use Rattle.std.proofs.Common.{◌++◌, refl}
use Rattle.wf_lines.proofs.Makings.{told_or}
use Rattle.wf_lines.proofs.lines.go_on.Goals as goal

pub returns-in-Err-put_made-clause-stopped : goal.returns-in-Err-put_made-clause-stopped
returns-in-Err-put_made-clause-stopped g c = λ p within.
    let t = g.T.Taker in
    let made = t.made c.more.new.self in
    (refl, (made, told_or (λ e. t.stops p.state p.number p.text e (p.made ++ made)) t.end_of c.in-Err.fault (λ e is. c.in-Err.ensures.stopped e is p within) (λ none. c.in-Err.ensures.wanting none p within), c.in-Err-put_made.ensures.begun refl))
