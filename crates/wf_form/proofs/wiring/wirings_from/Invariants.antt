use Rattle.std.proofs.Common.{◌≡◌, ℕ, ◌<◌, length}
use Rattle.wf_model.specs.declared.parts.ProdPart.{ProdPart}
use Rattle.wf_model.specs.Lists.{IsAt}
use Rattle.wf_form.specs.declared.wiring.Wiring.{Wiring}
use Rattle.wf_form.specs.Rules.{HasKnownPorts}
use Rattle.wf_form.specs.Wiring.{IsWiringOf}
use Rattle.wf_form.proofs.wiring.wirings_from.Given as goal

abbrev pub invariant-loop-k : goal.invariant-loop-k
invariant-loop-k l = record {
  known : (j : ℕ) → j < l.k → (p : ProdPart) → IsAt p j l.parts → HasKnownPorts l.modules p;
  as_many : length l.list.items ≡ l.k;
  wired : (j : ℕ) (p : ProdPart) (w : Wiring) → IsAt p j l.parts → IsAt w j l.list.items → IsWiringOf l.modules p w;
}
