use Rattle.std.proofs.Common.{subst, arith}
use Rattle.wf_inbox.specs.Inboxes.{IsFirstHeld}
use Rattle.wf_inbox.proofs.Together.{first_of_all, first_within, read_at, first_is}
use Rattle.wf_inbox.proofs.inbox.Inbox.first.Goals as goal

pub index-report-requires : goal.index-report-requires
index-report-requires c = let l = first_within _ _ _ _ _ c.self.invariant c.in-Some.ensures.first in let k = c.self.inside.kept.ok.0 in omega arith

pub returns : goal.returns
returns c =
    let first = first_of_all _ _ _ _ _ c.self.invariant c.in-Some.ensures.first c.in-Some.ensures.least in
    let e = read_at c.self.inside.kept.items c.in-Some.place c.index-report.result.now (first_within _ _ _ _ _ c.self.invariant c.in-Some.ensures.first) c.index-report.ensures in
    subst (λ v. IsFirstHeld v.kept (record { line = c.line-line.result; event = c.in_ok-event.event })) c.self.view_is
    (first_is _ _ _ _ e first c.line-line.ensures c.in_ok-event.ensures)
