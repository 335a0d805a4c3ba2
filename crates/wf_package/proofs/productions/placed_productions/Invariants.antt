use Rattle.std.proofs.Common.{◌≡◌, map, take, get_or}
use Rattle.wf_package.specs.Parts.{production_part}
use Rattle.wf_package.proofs.productions.placed_productions.Given as goal

-- the productions so far
abbrev pub invariant-loop-p : goal.invariant-loop-p
invariant-loop-p l = l.list.items ≡ map (production_part l.g.core (λ m. get_or l.places m 0)) (take l.p-index l.numbers)
