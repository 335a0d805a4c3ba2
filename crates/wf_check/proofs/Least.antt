-- The least composite module of which something does not hold.
use Rattle.std.proofs.Common.{◌↔◌, ℕ, Option, None, Some, MatchOption}
use Rattle.wf_model.specs.declared.numbers.ModNo.{ModNo}
use Rattle.wf_model.specs.Grammar.{Grammar, IsComposite}
use Rattle.wf_check.specs.Improper.{IsLeastWithout, OfAllComposite}

-- it is told of what holds of the same composite modules
pub least_same : (g : Grammar) (P Q : ℕ → Type 0) (o : Option ModNo) → ((k : ℕ) → IsComposite g k → P k ↔ Q k) → MatchOption o (OfAllComposite g P) (λ m. IsLeastWithout g P m.0) → MatchOption o (OfAllComposite g Q) (λ m. IsLeastWithout g Q m.0)
least_same g P Q None same h = λ k c. (same k c).0 (h k c)
least_same g P Q (Some m) same h = record {
  composite = h.composite;
  fails = λ q. h.fails ((same m.0 h.composite).1 q);
  before = λ k l c. (same k c).0 (h.before k l c);
}
