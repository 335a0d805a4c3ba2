use Rattle.std.proofs.Common.{◌≡◌, map, take, flat_map}
use Rattle.wf_model.specs.Grammar.{body_of}
use Rattle.wf_model.specs.declared.numbers.ProdNo.{ProdNo}
use Rattle.wf_spec.proofs.making.modules_made.Given as goal

abbrev pub invariant-loop-p : goal.invariant-loop-p
invariant-loop-p l = l.list.items ≡ flat_map (body_of l.g.core) (map (λ (p : ProdNo). p.0) (take l.p-index l.p-items))
