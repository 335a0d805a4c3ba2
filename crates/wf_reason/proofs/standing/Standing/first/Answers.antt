use Rattle.std.proofs.Common.{sym, [], refl}
use Rattle.wf_reason.specs.ChainLines.{ItemLine}
use Rattle.wf_reason.specs.Right.{none}
use Rattle.wf_chain.specs.ViewedRuns.{grammar_in, view_in, full_in, events_in}
use Rattle.wf_reason.proofs.Onward.{first_right, same_item}
use Rattle.wf_reason.proofs.Standings.{first_lead, wrong_here}
use Rattle.wf_reason.proofs.standing.Standing.first.Goals as goal

pub returns-in-Some-clause-stands : goal.returns-in-Some-clause-stands
returns-in-Some-clause-stands c = (first_lead c.args.run.now c.in-Some.item c.args.name.now c.in-Some.ensures.visible c.in-Some.ensures.named, refl)

pub returns-in-None-clause-stands : goal.returns-in-None-clause-stands
returns-in-None-clause-stands c =
    let v = c.args.run.now in
    wrong_here v [] c.args.line (ItemLine c.args.name.now) (none refl)
    (λ h. let r = first_right (grammar_in v) (view_in v) (full_in v) (grammar_in v).start (events_in v) (ItemLine c.args.name.now) h in
    c.in-None.ensures.none refl r.0 r.1 r.2 (same_item r.0.name c.args.name.now (sym r.3)))
