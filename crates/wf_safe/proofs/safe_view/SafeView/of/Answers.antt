use Rattle.std.proofs.Common.{ap, subst}
use Rattle.wf_model.specs.Safe.{IsSafe}
use Rattle.wf_spec.specs.Held.{HeldGrammar}
use Rattle.wf_safe.specs.Full.{AreFullRows}
use Rattle.wf_safe.proofs.safe_view.SafeView.of.Goals as goal

pub invariant_of-result : goal.invariant_of-result
invariant_of-result c =
    let e = ap (λ (g : HeldGrammar). g.core) c.grammar.ensures.grammar in
    record {
      accepted = c.grammar.ensures.accepted;
      held = c.requires;
      safe = subst (λ g. IsSafe g c.args.view.core) e c.in_ok-full.ensures.safe;
      full = subst (λ g. AreFullRows g c.args.view.core c.in_ok-full.full) e c.in_ok-full.ensures.full;
    }
