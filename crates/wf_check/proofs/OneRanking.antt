-- A grammar has one rank and one choice for each module.
use Rattle.std.proofs.Common.{◌≡◌, ℕ, arith}
use Rattle.wf_model.specs.Grammar.{Grammar}
use Rattle.wf_model.specs.Proper.{IsRank}
use Rattle.wf_check.specs.Proper.{IsChoice}

-- a module has one rank
pub one_rank : (g : Grammar) (m j k : ℕ) → IsRank g m j → IsRank g m k → j ≡ k
one_rank g m j k p q = let a = p.1 k q.0 in let b = q.1 j p.0 in omega arith

-- and one choice
pub one_choice : (g : Grammar) (m j k : ℕ) → IsChoice g m j → IsChoice g m k → j ≡ k
one_choice g m j k p q = let a = p.1 k q.0 in let b = q.1 j p.0 in omega arith
