-- Modules and productions that are read by their numbers.
use Rattle.std.proofs.Common.{◌≡◌, ℕ, ◌<◌, List, length, get_or, map, ◌∙◌}
use Rattle.std.proofs.lemmas.List.{get_or_default}
use Rattle.wf_model.specs.Lists.{IsIn}
use Rattle.wf_model.specs.Grammar.{Module}
use Rattle.wf_model.specs.Meaning.{position_of}
use Rattle.wf_model.specs.declared.body.Position.{Position as PositionHeld}
use Rattle.wf_model.proofs.Lists.{in_map}
use Rattle.wf_model.proofs.Positions.{in_there}
use Rattle.wf_spec.specs.Bodies.{modules_at}
use Rattle.wf_spec.specs.Naming.{module_in}

pub module_there : (xs : List PositionHeld) (k : ℕ) (q : PositionHeld) → k < length xs → q ≡ get_or xs k q → IsIn q.module.0 (modules_at (map position_of xs))
module_there xs k q h e = in_map _ (position_of q) (map position_of xs) (in_map position_of q xs (in_there xs k q h e))

-- a module that was read is the one of its number
pub module_read : (ms : List Module) (m : ℕ) (x : Module) → m < length ms → x ≡ get_or ms m x → x ≡ module_in ms m
module_read ms m x h e = e ∙ get_or_default ms m _ _ h
