-- What stands in a body.
use Rattle.std.proofs.Common.{◌≡◌, ℕ, ◌<◌, List, length, get_or, map, subst}
use Rattle.wf_model.specs.declared.body.Position.{Position as PositionHeld}
use Rattle.wf_model.specs.Meaning.{position_of}
use Rattle.wf_model.specs.Lists.{IsIn}
use Rattle.wf_spec.specs.Bodies.{modules_at}
use Rattle.wf_spec.proofs.Reading.{module_there}

-- the module at a position stands in the body
pub stands_at : (xs : List PositionHeld) (k : ℕ) (q : PositionHeld) (body : List ℕ) → k < length xs → q ≡ get_or xs k q → modules_at (map position_of xs) ≡ body → IsIn q.module.0 body
stands_at xs k q body h e is = subst (IsIn q.module.0) is (module_there xs k q h e)
