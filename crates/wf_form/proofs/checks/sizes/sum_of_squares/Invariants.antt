use Rattle.std.proofs.Common.{◌≡◌, ◌≤◌, ◌*◌, take}
use Rattle.wf_form.specs.Rules.{squares}
use Rattle.wf_form.proofs.checks.sizes.sum_of_squares.Given as goal

abbrev pub invariant-loop-rule : goal.invariant-loop-rule
invariant-loop-rule l = record { sum : l.sum ≡ squares (take l.rule-index l.productions); small : l.sum ≤ l.rule-index * 4096 }
