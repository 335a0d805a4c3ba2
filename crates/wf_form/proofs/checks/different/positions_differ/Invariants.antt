use Rattle.std.proofs.Common.{◌≡◌, drop, map, []}
use Rattle.wf_model.specs.Faults.{some_twice}
use Rattle.wf_model.specs.declared.parts.PosPart.{PosPart}
use Rattle.wf_form.proofs.checks.different.positions_differ.Given as goal

abbrev pub invariant-loop-q : goal.invariant-loop-q
invariant-loop-q l = some_twice l.taken (map (λ (q : PosPart). q.name) (drop l.q-index l.body)) ≡ some_twice [] (map (λ (q : PosPart). q.name) l.body)
