use Rattle.std.proofs.Common.{◌≡◌, take}
use Rattle.wf_package.specs.Parts.{made_by_place, module_part}
use Rattle.wf_package.proofs.modules.placed_modules.Given as goal

-- the modules so far
abbrev pub invariant-loop-k : goal.invariant-loop-k
invariant-loop-k l = l.list.items ≡ made_by_place (module_part l.g.core) 0 (take l.k l.numbers)
