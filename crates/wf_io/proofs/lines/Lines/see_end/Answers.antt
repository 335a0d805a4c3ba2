use Rattle.std.proofs.Common.{◌≡◌, ◌≤◌, true, false, length, ap, subst, arith}
use Rattle.wf_io.proofs.lines.Lines.see_end.Goals as goal

pub returns-in-Ok-eq0-clause-bytes : goal.returns-in-Ok-eq0-clause-bytes
returns-in-Ok-eq0-clause-bytes g c = λ f told.
    let gives = c.in-Ok-eq0.ensures.bytes f told in
    subst (λ n. (length (f n).bytes ≤ c.args.at) × ((f n).broken ≡ false)) (ap (λ r. r.name) c.self.view_is) (gives.none c.in-Ok-eq0.field-0-test (omega arith))

pub returns-in-Err-clause-bytes : goal.returns-in-Err-clause-bytes
returns-in-Err-clause-bytes g c = λ f told.
    let breaks = c.in-Err.ensures.bytes f told in
    subst (λ n. (length (f n).bytes ≤ c.args.at) × ((f n).broken ≡ true)) (ap (λ r. r.name) c.self.view_is) (breaks.past, breaks.broken)
