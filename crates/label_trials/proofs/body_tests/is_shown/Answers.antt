use Rattle.std.proofs.Common.{rules}
use Rattle.wf_view.proofs.KnownViews.{held}
use Rattle.label_trials.proofs.body_tests.is_shown.Goals as goal

pub returns-then-seen : goal.returns-then-seen
returns-then-seen c =
    let h = held c.args.sight.grammar.now.core c.args.sight.view.now c.args.sight.held in
    search (rules, h)
