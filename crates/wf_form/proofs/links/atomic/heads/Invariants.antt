use Rattle.std.proofs.Common.{◌↔◌, ℕ, List, map, take}
use Rattle.wf_model.specs.declared.parts.ProdPart.{ProdPart}
use Rattle.wf_model.specs.Lists.{IsIn}
use Rattle.wf_form.proofs.links.atomic.heads.Given as goal

abbrev pub invariant-loop-rule : goal.invariant-loop-rule
invariant-loop-rule l = (n : List ℕ) → IsIn n l.names ↔ IsIn n (map (λ (p : ProdPart). p.head) (take l.rule-index l.productions))
