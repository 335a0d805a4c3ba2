use Rattle.std.proofs.Common.{◌≡◌, take}
use Rattle.wf_package.specs.Parts.{made_by_place, given_part}
use Rattle.wf_package.proofs.pairs.placed_pairs.Given as goal

-- the modules so far
abbrev pub invariant-loop-k : goal.invariant-loop-k
invariant-loop-k l = l.given.items ≡ made_by_place (given_part l.v.grammar.now.core l.v.view.now.core) 0 (take l.k l.numbers)
