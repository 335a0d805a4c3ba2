use Rattle.std.proofs.Common.{◌≡◌, map, take, length}
use Rattle.wf_spec.proofs.lists.heads.numbered.Given as goal

abbrev pub invariant-loop-rule : goal.invariant-loop-rule
invariant-loop-rule l = record {
  cores : map (λ p. p.core) l.list.items ≡ l.yielded;
  alternatives : map (λ p. p.alternative) l.list.items ≡ take (length l.yielded) l.places;
}
