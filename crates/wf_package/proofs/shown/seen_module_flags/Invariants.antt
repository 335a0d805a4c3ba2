use Rattle.std.proofs.Common.{◌≡◌, false, map, get_or}
use Rattle.wf_model.specs.Lists.{numbers_from}
use Rattle.wf_package.proofs.shown.seen_module_flags.Given as goal

-- the modules so far
abbrev pub invariant-loop-m : goal.invariant-loop-m
invariant-loop-m l = l.flags.items ≡ map (λ m. get_or l.v.view.now.seen m false) (numbers_from 0 l.m)
