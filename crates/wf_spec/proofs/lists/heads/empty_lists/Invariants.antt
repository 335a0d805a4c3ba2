use Rattle.std.proofs.Common.{◌≡◌, List, ℕ, [], replicate}
use Rattle.wf_spec.specs.Tables.{numbers_in}
use Rattle.wf_spec.proofs.lists.heads.empty_lists.Given as goal

abbrev pub invariant-loop-k : goal.invariant-loop-k
invariant-loop-k l = numbers_in l.lists.items ≡ replicate {A = List ℕ} l.k []
