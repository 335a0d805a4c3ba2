use Rattle.std.proofs.Common.{◌≡◌, map, take, flat_map}
use Rattle.wf_model.specs.declared.numbers.ProdNo.{ProdNo}
use Rattle.wf_compare.specs.Steps.{leadings_by}
use Rattle.wf_compare.proofs.steps.open_steps.Given as goal

-- the productions so far
abbrev pub invariant-loop-production : goal.invariant-loop-production
invariant-loop-production l = l.row.items ≡ flat_map (leadings_by l.g.core) (map (λ (p : ProdNo). p.0) (take l.production-index l.production-items))
