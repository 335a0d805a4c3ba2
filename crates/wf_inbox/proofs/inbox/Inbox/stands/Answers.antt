use Rattle.std.proofs.Common.{◌≡◌, ◌<◌, ◌∙◌, length, sym, subst, map}
use Rattle.std.specs.List.{slice_set}
use Rattle.report_model.specs.Kept.{kept_at}
use Rattle.wf_inbox.specs.Inboxes.{marked}
use Rattle.wf_inbox.proofs.Marks.{none_held_marked, none_about_marked, within, marked_at}
use Rattle.wf_inbox.proofs.Together.{read_at, marked_together}
use Rattle.wf_inbox.proofs.inbox.Inbox.stands.Goals as goal

pub returns-then-self-eq0-clause-marked : goal.returns-then-self-eq0-clause-marked
returns-then-self-eq0-clause-marked c =
    subst (λ v. v.kept ≡ map (marked c.args.name.now) v.kept) c.self.view_is (none_held_marked c.args.name.now c.self.inside.kept.items (sym c.if-self-eq0.true ∙ c.self.invariant.held))

in_range : (c : goal.After-push_if) → c.in-Some.place < length c.self.inside.kept.items
in_range c = within c.args.name.now c.self.inside.kept.items c.self.inside.subjects c.self.invariant.subjects c.in-Some.place c.in-Some.ensures.once c.in-Some.ensures.place

read : (c : goal.After-push_if) → c.index_mut.result.now ≡ kept_at c.self.inside.kept.items c.in-Some.place
read c = read_at c.self.inside.kept.items c.in-Some.place c.index_mut.result.now (in_range c) c.index_mut.ensures.value

pub invariant_of-self : goal.invariant_of-self
invariant_of-self c =
    marked_together _ c.self.inside.kept.items _ _ _ c.in-Some.place c.index_mut.result.now c.make_ready-is_due.new.self c.make_ready-is_due.result c.self.invariant (in_range c) (read c) c.make_ready-is_due.ensures.marked
    c.make_ready-is_due.ensures.newly c.push_if.ensures.times

pub returns-in-Some-clause-marked : goal.returns-in-Some-clause-marked
returns-in-Some-clause-marked c =
    subst (λ v. slice_set c.self.inside.kept.items c.in-Some.place c.make_ready-is_due.new.self ≡ map (marked c.args.name.now) v.kept) c.self.view_is
    (marked_at c.args.name.now c.self.inside.kept.items c.self.inside.subjects c.self.invariant.subjects c.in-Some.place c.in-Some.ensures.once c.in-Some.ensures.place c.index_mut.result.now
    c.make_ready-is_due.new.self (read c) c.make_ready-is_due.ensures.marked)

pub returns-in_default-clause-marked : goal.returns-in_default-clause-marked
returns-in_default-clause-marked c =
    subst (λ v. v.kept ≡ map (marked c.args.name.now) v.kept) c.self.view_is (none_about_marked c.args.name.now c.self.inside.kept.items c.self.inside.subjects c.self.invariant.subjects c.in_default.ensures.place)
