use Rattle.std.proofs.Common.{sym, ap, ◌∙◌, subst}
use Rattle.wf_model.specs.Grammar.{Grammar}
use Rattle.wf_spec.specs.Held.{HeldGrammar}
use Rattle.label_file.specs.Stored.{IsStoreFor}
use Rattle.label_caller.proofs.HeldEntries.{opened_fits}
use Rattle.label_caller.proofs.decider.Decider.open.Goals as goal

pub invariant_of-result : goal.invariant_of-result
invariant_of-result c = record {
  store = subst (λ (x : Grammar). IsStoreFor x c.in_ok-store.store) (ap (λ (h : HeldGrammar). h.core) c.linear-linear.ensures.grammar ∙ sym c.in_ok-label.ensures.grammar) (opened_fits _ _ _ _ c.in_ok-store.ensures.store);
  enough = c.in_ok-scratch.ensures;
}
