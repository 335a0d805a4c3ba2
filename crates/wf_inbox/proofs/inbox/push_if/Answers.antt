use Rattle.std.proofs.Common.{◌∙◌, ap, sym, ◌&&◌}
use Rattle.std.specs.Prelude.{◌+◌, ◌==◌}
use Rattle.wf_inbox.specs.Keeping.{times}
use Rattle.wf_inbox.proofs.Times.{times_pushed, one_if}
use Rattle.wf_inbox.proofs.inbox.push_if.Goals as goal

pub returns-then-is_due-clause-times : goal.returns-then-is_due-clause-times
returns-then-is_due-clause-times c = λ k. times_pushed k c.args.place _ _ c.push.ensures.added ∙ ap (λ b. times k c.args.places.now.places + one_if (b && k == c.args.place)) (sym c.if-is_due.true)
