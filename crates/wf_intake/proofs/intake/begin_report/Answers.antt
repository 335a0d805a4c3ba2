use Rattle.std.proofs.Common.{subst, ap, ◌∙◌}
use Rattle.std.proofs.lemmas.Result.{err_from_is_err_and}
use Rattle.wf_inbox.specs.Inboxes.{IsContradicted}
use Rattle.wf_intake.specs.Rounds.{names_given, all_marked}
use Rattle.wf_intake.specs.Growing.{StopsAtOne}
use Rattle.wf_intake.proofs.Answering.{passed}
use Rattle.wf_intake.proofs.Offering.{applied_again, applied_other, offered, refused, refused_at_once, applied_at_once, as_many, no_fewer}
use Rattle.wf_intake.proofs.intake.begin_report.Goals as goal

pub returns-in-Same-clause-begun : goal.returns-in-Same-clause-begun
returns-in-Same-clause-begun g c = λ s here.
    let r = g.R.Grows in
    let run = c.args.run.now in
    applied_again (r.grammar run) (r.most run) c.args.inbox.now.kept c.args.reported.now (r.is_run run) s here (record { line = c.args.line; event = c.args.event.now })
    (r.written (r.grammar run)) (r.text run) (c.in-Same.ensures.stands s.run here.parts.run here.parts.fits)

pub returns-in-Other-clause-stopped : goal.returns-in-Other-clause-stopped
returns-in-Other-clause-stopped g c = λ f told s here.
    let r = g.R.Grows in
    let run = c.args.run.now in
    applied_other (r.grammar run) (r.most run) c.args.inbox.now.kept c.args.reported.now (r.is_run run) s here (record { line = c.args.line; event = c.args.event.now })
    (r.written (r.grammar run)) (r.text run) c.in-Other.earlier (c.in-Other.ensures.stands s.run here.parts.run here.parts.fits) f told

pub returns-in-Ok-clause-begun : goal.returns-in-Ok-clause-begun
returns-in-Ok-clause-begun g c = λ s here.
    let r = g.R.Grows in
    let run = c.args.run.now in
    offered (r.grammar run) (r.most run) c.args.inbox.now.kept c.args.reported.now (r.is_run run) s here (record { line = c.args.line; event = c.args.event.now })
    (r.written (r.grammar run)) (r.text run) (c.in-Early.ensures.stands s.run here.parts.run here.parts.fits) c.offer.new.self.kept c.in-Ok.field-0 c.in-Ok.ensures.offered

pub returns-in-Ok-clause-holds : goal.returns-in-Ok-clause-holds
returns-in-Ok-clause-holds g c = no_fewer _ _ c.args.line c.args.event.now c.in-Ok.field-0 c.in-Ok.ensures.offered

pub returns-in-Err-Conflict-clause-stopped : goal.returns-in-Err-Conflict-clause-stopped
returns-in-Err-Conflict-clause-stopped g c = λ f told s here.
    let r = g.R.Grows in
    let run = c.args.run.now in
    refused (r.grammar run) (r.most run) c.args.inbox.now.kept c.args.reported.now (r.is_run run) s here (record { line = c.args.line; event = c.args.event.now })
    (r.written (r.grammar run)) (r.text run) (c.in-Early.ensures.stands s.run here.parts.run here.parts.fits) c.in-Err-Conflict.earlier (subst (IsContradicted c.args.inbox.now.kept c.args.line c.args.event.now) c.in-Err-Conflict.field-0-is c.in-Err-Conflict.ensures.conflict) f told

pub returns-in_ok-apply_event-in-Ready-clause-begun : goal.returns-in_ok-apply_event-in-Ready-clause-begun
returns-in_ok-apply_event-in-Ready-clause-begun g c = λ s here.
    let r = g.R.Grows in
    let run = c.args.run.now in
    let e = c.in_ok-apply_event-in-Ready.ensures in
    applied_at_once (r.grammar run) (r.most run) r.written _ _ _ c.args.line c.args.event.now c.in-Ready.number s here (c.in-Ready.ensures.stands s.run here.parts.run here.parts.fits) _ c.mark_made.new.inbox.kept c.apply_event.new.reported _ _
    (e.applied s.run here.parts.run) (c.mark_made.ensures ∙ ap (all_marked (names_given c.args.event.now)) e.same_inbox) e.noted

pub returns-in_ok-apply_event-in-Ready-clause-holds : goal.returns-in_ok-apply_event-in-Ready-clause-holds
returns-in_ok-apply_event-in-Ready-clause-holds g c = as_many (names_given c.args.event.now) _ _ (c.mark_made.ensures ∙ ap (all_marked (names_given c.args.event.now)) c.in_ok-apply_event-in-Ready.ensures.same_inbox)

pub returns-in_err-apply_event-in-Ready-clause-stopped : goal.returns-in_err-apply_event-in-Ready-clause-stopped
returns-in_err-apply_event-in-Ready-clause-stopped g c =
    let r = g.R.Grows in
    passed (StopsAtOne r.grammar r.most r.is_run r.written r.text c.args.inbox.now c.args.reported.now c.args.run.now c.apply_event.new.run c.args.line c.args.event.now)
    c.from_residual.result c.in_err-apply_event-in-Ready.field-0.0 (err_from_is_err_and c.from_residual.result c.from_residual.ensures.1)
    (λ f told s here. refused_at_once (r.grammar c.args.run.now) (r.most c.args.run.now) r.written _ _ _ c.args.line c.args.event.now c.in-Ready.number s here (c.in-Ready.ensures.stands s.run here.parts.run here.parts.fits) _ f _ _ (c.in_err-apply_event-in-Ready.ensures.refused f told s.run here.parts.run))
