use Rattle.std.proofs.Common.{◌≡◌, drop, map, get_or, None}
use Rattle.std.specs.List.{list_all}
use Rattle.wf_model.specs.Meaning.{position_of}
use Rattle.wf_spec.specs.Bodies.{modules_at}
use Rattle.wf_check.specs.Ranks.{is_below}
use Rattle.wf_check.proofs.ranks.is_lower.Given as goal

abbrev pub invariant-loop-q : goal.invariant-loop-q
invariant-loop-q l =
    list_all (λ k. is_below l.n (get_or l.ranks k None)) (modules_at (map position_of (drop l.q-index l.q-items)))
    ≡ list_all (λ k. is_below l.n (get_or l.ranks k None)) (modules_at l.rule.core.positions)
