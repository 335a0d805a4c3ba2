-- The parts of what makes a body well-formed, for a production by itself.
use Rattle.std.specs.Prelude.{◌≡◌, ℕ, ◌*◌, ◌<◌, List, map, length, ◌++◌}
use Rattle.wf_model.specs.Lists.{IsIn, AllDiffer}
use Rattle.wf_model.specs.Grammar.{Module, Position, Edge, Production}
use Rattle.wf_model.specs.WellFormed.{IsShortName}
use Rattle.wf_spec.specs.Naming.{module_in}
use Rattle.wf_form.specs.Ends.{AreMetOnce}
use Rattle.wf_form.specs.Graphs.{IsAcyclic}
use Rattle.wf_spec.specs.Bodies.{modules_at}

-- the names of positions
abbrev pub names_at : List Position → List (List ℕ)
names_at = map (λ (q : Position). q.name)

-- how many inputs, and how many outputs, a module has; none past the end
abbrev pub inputs_in : List Module → ℕ → ℕ
inputs_in modules m = length (module_in modules m).inputs

abbrev pub outputs_in : List Module → ℕ → ℕ
outputs_in modules m = length (module_in modules m).outputs

-- there are positions, at each stands one of so many modules, and their names are short and differ
pub record HasPlaces (modules : ℕ) (positions : List Position) : Type 0 where
  pub some_position : 0 < length positions
  pub within : (m : ℕ) → IsIn m (modules_at positions) → m < modules
  pub names : (q : Position) → IsIn q positions → IsShortName q.name
  pub names_differ : AllDiffer (names_at positions)

-- each input of a position is the target of one edge or entry, and each output the source of one edge or exit, and no other ends are there
pub record IsLinkedOnce (modules : List Module) (r : Production) : Type 0 where
  pub fed : AreMetOnce (map (inputs_in modules) (modules_at r.positions)) (map (λ (e : Edge). e.to) r.edges ++ r.entries)
  pub used : AreMetOnce (map (outputs_in modules) (modules_at r.positions)) (map (λ (e : Edge). e.from) r.edges ++ r.exits)

-- one entry for each input of the head, and one exit for each output
pub record HasHeadLinks (modules : List Module) (r : Production) : Type 0 where
  pub one_entry_each : length r.entries ≡ inputs_in modules r.head
  pub one_exit_each : length r.exits ≡ outputs_in modules r.head

-- what makes a production's body well-formed
pub record IsBody (modules : List Module) (r : Production) : Type 0 where
  pub places : HasPlaces (length modules) r.positions
  pub head_links : HasHeadLinks modules r
  pub linked : IsLinkedOnce modules r
  pub acyclic : IsAcyclic r.edges

-- the square of a body's length
abbrev pub square_of : Production → ℕ
square_of r = length r.positions * length r.positions
