use Rattle.std.proofs.Common.{ap, sym, ◌∙◌, subst}
use Rattle.std.specs.Prelude.{IfOk}
use Rattle.wf_model.specs.View.{IsDefaultView}
use Rattle.wf_model.specs.DefaultView.{default_view}
use Rattle.wf_spec.specs.Held.{HeldGrammar}
use Rattle.wf_accept.specs.Accepted.{AcceptedValue}
use Rattle.wf_loops.specs.Looped.{LoopedValue}
use Rattle.wf_safe.specs.SafeViews.{SafeViewValue}
use Rattle.package_file.specs.Packed.{IsSafeByDefault, GiveSameVerdicts}
use Rattle.package_file.proofs.DefaultViews.{default_is_safe}
use Rattle.package_file.proofs.DefaultVerdicts.{default_verdicts}
use Rattle.package_file.proofs.packed.Package.safe_view.Goals as goal

pub known_safe-requires-clause-safe : goal.known_safe-requires-clause-safe
known_safe-requires-clause-safe c =
    let a = c.accepted-accepted.result.now in
    let accepted = c.grammar.ensures.accepted in
    default_is_safe a.grammar.core c.in_ok-view.view.core accepted.formed accepted.proper
    (subst (λ (h : HeldGrammar). IsDefaultView h.core c.in_ok-view.view.core) c.grammar.ensures.grammar c.in_ok-view.ensures.default)
    (subst (λ (b : AcceptedValue). IsSafeByDefault b.grammar.core) (sym c.accepted-accepted.ensures.accepted) c.self.invariant.safe)

pub returns-clause-verdicts : goal.returns-clause-verdicts
returns-clause-verdicts c =
    let a = c.accepted-accepted.result.now in
    let accepted = c.grammar.ensures.accepted in
    let default = subst (λ (h : HeldGrammar). IsDefaultView h.core c.in_ok-view.view.core) c.grammar.ensures.grammar c.in_ok-view.ensures.default in
    let safe = default_is_safe a.grammar.core c.in_ok-view.view.core accepted.formed accepted.proper default (subst (λ (b : AcceptedValue). IsSafeByDefault b.grammar.core) (sym c.accepted-accepted.ensures.accepted) c.self.invariant.safe) in
    subst (λ (b : AcceptedValue). IfOk c.known_safe.result (λ (v : SafeViewValue). GiveSameVerdicts b.grammar.core v.view.core (default_view b.grammar.core)))
    (c.accepted-accepted.ensures.accepted ∙ ap (λ (l : LoopedValue). l.accepted) c.self.view_is)
    (default_verdicts a.grammar.core (λ (v : SafeViewValue). v.view) c.in_ok-view.view c.known_safe.result accepted.formed accepted.proper default safe c.known_safe.ensures.view)
