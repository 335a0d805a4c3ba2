use Rattle.std.proofs.Common.{ℕ, ◌<◌}
use Rattle.wf_model.specs.Meaning.{pairs_of}
use Rattle.wf_compare.specs.Pairs.{Differs, HasNoneOf}
use Rattle.wf_compare.proofs.pairs.first_pair.Given as goal

-- the modules so far
abbrev pub invariant-loop-k : goal.invariant-loop-k
invariant-loop-k l = (m : ℕ) → m < l.k → HasNoneOf (Differs l.way l.coarse.grammar.now.core l.coarse.view.now.core (pairs_of l.full)) m
