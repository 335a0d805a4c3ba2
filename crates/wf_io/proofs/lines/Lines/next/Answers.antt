use Rattle.std.proofs.Common.{refl}
use Rattle.std.proofs.lemmas.Result.{err_from_is_err_and}
use Rattle.wf_io.proofs.lines.Lines.next.Goals as goal

pub returns-in_err-advance : goal.returns-in_err-advance
returns-in_err-advance g c =
    let p = err_from_is_err_and c.from_residual.result c.from_residual.ensures.1 in
    let e = c.in_err-advance.ensures in
    rw (p.1, p.2) (
      (refl, λ _. tt, record { lines = e.lines; stands = tt; held = tt; name = e.name; live = tt; dead = e.dead; line = e.line; reading = tt; less = tt }),
      record { after_borrow = tt; once = e.once; same = e.same; later = e.later; ok = tt; cause = e.cause; count = e.count },
    )
