use Rattle.std.proofs.Common.{ap, subst}
use Rattle.std.specs.Prelude.{IfOk, IfErr}
use Rattle.wf_inbox.specs.Inboxes.{IsKept, IsOffered, IsContradicted}
use Rattle.wf_inbox.proofs.Offers.{kept_new, repeated, contradicted}
use Rattle.wf_inbox.proofs.Together.{more_together}
use Rattle.wf_inbox.proofs.inbox.Inbox.offer.Goals as goal

pub returns-in-Some-clause-offered : goal.returns-in-Some-clause-offered
returns-in-Some-clause-offered c =
    subst (λ v. IfOk c.beside.result (IsOffered v.kept v.kept c.args.line c.args.event.now c.args.stands)) c.self.view_is
    (repeated c.self.inside.kept.items c.self.inside.subjects c.self.invariant.subjects c.args.line c.args.event.now _ c.subject.ensures c.in-Some.place c.index.result.now c.in-Some.ensures.place c.index.ensures c.beside.result
    c.args.stands c.beside.ensures.same)

pub returns-in-Some-clause-conflict : goal.returns-in-Some-clause-conflict
returns-in-Some-clause-conflict c =
    subst (λ v. IfErr c.beside.result (IsContradicted v.kept c.args.line c.args.event.now)) c.self.view_is
    (contradicted c.self.inside.kept.items c.self.inside.subjects c.self.invariant.subjects c.args.line c.args.event.now _ c.subject.ensures c.in-Some.place c.index.result.now c.in-Some.ensures.place c.index.ensures
    c.beside.result c.beside.ensures.other)

pub invariant_of-self-2 : goal.invariant_of-self-2
invariant_of-self-2 c =
    let k = c.in_ok-keep.ensures in
    more_together _ _ c.self.inside.kept.items _ _ _ _ c.in_ok-report.report c.self.invariant k.subjects k.kept k.times k.few (ap (λ r. r.held) c.in_ok-report.ensures)

pub returns-clause-offered : goal.returns-clause-offered
returns-clause-offered c =
    subst (λ v. IsKept v.kept c.keep.new.kept.items (record { line = c.args.line; event = c.args.event.now }) c.args.stands) c.self.view_is
    (kept_new c.self.inside.kept.items c.self.inside.subjects c.self.invariant.subjects c.args.line c.args.event.now _ c.subject.ensures _ c.in_ok-report.report c.args.stands c.in_default.ensures.place c.in_ok-report.ensures
    c.in_ok-keep.ensures.kept)
