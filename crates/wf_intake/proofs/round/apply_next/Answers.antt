use Rattle.std.proofs.Common.{subst}
use Rattle.wf_inbox.specs.Inboxes.{IsFirstLetGo}
use Rattle.wf_intake.proofs.Stepping.{next_held, round_applied, round_one, round_left, round_refused}
use Rattle.wf_intake.proofs.round.apply_next.Goals as goal

pub returns-in-Ok-clause-round : goal.returns-in-Ok-clause-round
returns-in-Ok-clause-round g c =
    let e = c.in-Ok.ensures in
    let next = next_held _ _ _ _ c.in-Some.is c.in_ok-held.ensures (subst (λ z. IsFirstLetGo z c.let_go_first.new.self.kept) e.same_inbox c.let_go_first.ensures.gone) in
    round_applied _ _ g.R.Grows.written _ _ _ _ _ _ next _ _ _ _ c.number_of-number.result _ c.mark_made.ensures e.noted c.number_of-number.ensures e.applied

pub returns-in-Ok-clause-one : goal.returns-in-Ok-clause-one
returns-in-Ok-clause-one g c =
    let e = c.in-Ok.ensures in
    let next = next_held _ _ _ _ c.in-Some.is c.in_ok-held.ensures (subst (λ z. IsFirstLetGo z c.let_go_first.new.self.kept) e.same_inbox c.let_go_first.ensures.gone) in
    round_one (g.R.Grows.grammar c.args.run.now) (g.R.Grows.most c.args.run.now) g.R.Grows.written _ _ c.args.reported.now (g.R.Grows.is_run c.args.run.now) _ _ next (g.R.Grows.text c.args.run.now) (g.R.Grows.text c.args.run.now) _ c.mark_made.ensures

pub returns-clause-stopped : goal.returns-clause-stopped
returns-clause-stopped g c =
    let e = c.in-Err.ensures in
    let next = next_held _ _ _ _ c.in-Some.is c.in_ok-held.ensures (subst (λ z. IsFirstLetGo z c.let_go_first-in-Err.new.self.kept) e.same_inbox c.let_go_first-in-Err.ensures.gone) in
    round_refused _ _ g.R.Grows.written _ _ c.args.reported.now _ _ _ next _ _ _ _ e.refused

pub returns-clause-others : goal.returns-clause-others
returns-clause-others g c = λ r told.
    let e = c.in-Err.ensures in
    let next = next_held _ _ _ _ c.in-Some.is c.in_ok-held.ensures (subst (λ z. IsFirstLetGo z c.let_go_first-in-Err.new.self.kept) e.same_inbox c.let_go_first-in-Err.ensures.gone) in
    round_left (g.R.Grows.grammar c.args.run.now) (g.R.Grows.most c.args.run.now) g.R.Grows.written _ _ c.args.reported.now (g.R.Grows.is_run c.args.run.now) _ _ next (g.R.Grows.text c.args.run.now) (g.R.Grows.text c.args.run.now)
    _ (g.R.Grows.is_run c.apply_event.new.run) r e.same_lines e.same_run (e.told r told)
