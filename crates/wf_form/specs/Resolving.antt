-- What each part needs so that its names are found.
use Rattle.std.specs.Prelude.{◌<◌, List, length}
use Rattle.wf_model.specs.declared.parts.EdgePart.{EdgePart}
use Rattle.wf_model.specs.Lists.{IsIn}
use Rattle.wf_model.specs.Grammar.{Module, Position, Inner}
use Rattle.wf_form.specs.Forming.{module_at_place, inner_input, inner_output}

-- every position has a module of the list
abbrev pub AreOfModules : List Module → List Position → Type 0
AreOfModules modules body = (q : Position) → IsIn q body → q.module_no < length modules

-- an input of a position of the body
pub record IsInputIn (modules : List Module) (body : List Position) (i : Inner) : Type 0 where
  pub position : i.position < length body
  pub port : i.port < length (module_at_place modules body i.position).inputs

-- an output of a position of the body
pub record IsOutputIn (modules : List Module) (body : List Position) (i : Inner) : Type 0 where
  pub position : i.position < length body
  pub port : i.port < length (module_at_place modules body i.position).outputs

-- both ends of an edge are there
pub record IsEdgeIn (modules : List Module) (body : List Position) (e : EdgePart) : Type 0 where
  pub from : IsOutputIn modules body (inner_output modules body e.from)
  pub to : IsInputIn modules body (inner_input modules body e.to)
