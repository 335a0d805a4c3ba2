use Rattle.std.proofs.Common.{◌≡◌, map}
use Rattle.wf_model.specs.Grammar.{head_of}
use Rattle.wf_model.specs.Lists.{numbers_from}
use Rattle.wf_safe.specs.Choosing.{is_seen_expanded}
use Rattle.wf_package.proofs.shown.open_production_flags.Given as goal

-- the productions so far
abbrev pub invariant-loop-p : goal.invariant-loop-p
invariant-loop-p l = l.flags.items ≡ map (λ p. is_seen_expanded l.v.view.now (head_of l.v.grammar.now.core p)) (numbers_from 0 l.p)
