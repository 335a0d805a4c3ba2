use Rattle.std.proofs.Common.{◌≡◌, ◌<◌, ℕ, length, map, get_or}
use Rattle.wf_model.specs.declared.numbers.ProdNo.{ProdNo}
use Rattle.wf_check.proofs.Choosing.{IsChosen}
use Rattle.wf_check.proofs.choices.choices.Given as goal

abbrev pub invariant-loop-m : goal.invariant-loop-m
invariant-loop-m l = record {
  count : length l.list.items ≡ l.m;
  chosen : (k : ℕ) → k < l.m → IsChosen l.g.core k (get_or (map (λ (p : ProdNo). p.0) l.list.items) k 0);
}
