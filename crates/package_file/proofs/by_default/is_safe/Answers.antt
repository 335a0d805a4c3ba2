use Rattle.std.proofs.Common.{refl, subst}
use Rattle.wf_model.specs.Safe.{IsSafe}
use Rattle.wf_accept.specs.Accepted.{AcceptedValue}
use Rattle.wf_view.specs.Held.{HeldView}
use Rattle.package_file.proofs.by_default.is_safe.Goals as goal

pub returns-in-Ok : goal.returns-in-Ok
returns-in-Ok c = (
  λ t. subst (λ (w : HeldView). IsSafe c.args.accepted.now.grammar.core w.core) c.in-Ok.ensures.view
      (subst (λ (a : AcceptedValue). IsSafe a.grammar.core c.in-Ok.safe.view.core) c.in-Ok.ensures.accepted c.accepted-facts.ensures.safe.safe),
  λ s. refl,
)
