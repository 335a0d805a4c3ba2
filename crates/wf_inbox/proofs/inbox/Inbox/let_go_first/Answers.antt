use Rattle.std.proofs.Common.{◌≡◌, ◌-◌, ◌∙◌, ap, sym, subst, arith}
use Rattle.std.specs.List.{slice_set}
use Rattle.report_model.specs.Kept.{kept_at, let_go}
use Rattle.wf_inbox.specs.Inboxes.{IsFirstLetGo, NoneReady}
use Rattle.wf_inbox.specs.Keeping.{AreTogether}
use Rattle.wf_inbox.proofs.Together.{none_ready, some_held, is_first, taken_together, first_within, read_at, first_let_go, none_let_go, first_not_none}
use Rattle.wf_inbox.proofs.inbox.Inbox.let_go_first.Goals as goal

pub index_mut-report-requires : goal.index_mut-report-requires
index_mut-report-requires c = let l = first_within _ _ _ _ _ c.self.invariant c.in-Some.ensures.first in let k = c.self.inside.kept.ok.0 in omega arith

pub overflow_sub-self : goal.overflow_sub-self
overflow_sub-self c = some_held _ _ _ _ _ _ c.self.invariant (c.drop_least.ensures.taken _ c.in-Some.ensures.first) (c.drop_least.ensures.least _ c.in-Some.ensures.first)

pub invariant_of-self : goal.invariant_of-self
invariant_of-self c =
    let e = read_at c.self.inside.kept.items c.in-Some.place c.index_mut-report.result.now (first_within _ _ _ _ _ c.self.invariant c.in-Some.ensures.first) c.index_mut-report.ensures.value in
    subst (λ y. AreTogether c.self.inside.subjects (slice_set c.self.inside.kept.items c.in-Some.place y) c.drop_least.new.self.places (c.self.inside.held - 1)) (sym (c.let_go.ensures ∙ ap let_go e))
    (taken_together _ _ _ _ _ _ c.self.invariant (c.drop_least.ensures.taken _ c.in-Some.ensures.first) (c.drop_least.ensures.least _ c.in-Some.ensures.first))

pub returns-clause-gone : goal.returns-clause-gone
returns-clause-gone c =
    let first = is_first _ _ _ _ _ _ c.self.invariant (c.drop_least.ensures.taken _ c.in-Some.ensures.first) (c.drop_least.ensures.least _ c.in-Some.ensures.first) in
    let e = read_at c.self.inside.kept.items c.in-Some.place c.index_mut-report.result.now (first_within _ _ _ _ _ c.self.invariant c.in-Some.ensures.first) c.index_mut-report.ensures.value in
    subst (λ v. IsFirstLetGo v.kept (slice_set c.self.inside.kept.items c.in-Some.place c.let_go.new.self)) c.self.view_is
    (first_let_go _ _ _ _ e first c.let_go.ensures)

pub returns-clause-none : goal.returns-clause-none
returns-clause-none c =
    let first = is_first _ _ _ _ _ _ c.self.invariant (c.drop_least.ensures.taken _ c.in-Some.ensures.first) (c.drop_least.ensures.least _ c.in-Some.ensures.first) in
    subst (λ v. NoneReady v.kept → slice_set c.self.inside.kept.items c.in-Some.place c.let_go.new.self ≡ v.kept) c.self.view_is
    (λ none. absurd (first_not_none _ _ first none))

pub returns-in_default-clause-gone : goal.returns-in_default-clause-gone
returns-in_default-clause-gone c = subst (λ v. IsFirstLetGo v.kept v.kept) c.self.view_is (none_let_go c.self.inside.kept.items (none_ready _ _ _ _ c.in_default.ensures.first c.self.invariant))
