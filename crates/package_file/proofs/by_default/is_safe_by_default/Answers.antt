use Rattle.std.proofs.Common.{subst}
use Rattle.wf_model.specs.View.{IsDefaultView}
use Rattle.wf_spec.specs.Held.{HeldGrammar}
use Rattle.package_file.proofs.DefaultViews.{default_told}
use Rattle.package_file.proofs.by_default.is_safe_by_default.Goals as goal

pub returns : goal.returns
returns c =
    let accepted = c.grammar.ensures.accepted in
    default_told c.args.accepted.now.grammar.core c.in_ok-view.view.core c.is_safe.result accepted.formed accepted.proper
    (subst (λ (h : HeldGrammar). IsDefaultView h.core c.in_ok-view.view.core) c.grammar.ensures.grammar c.in_ok-view.ensures.default) c.is_safe.ensures
