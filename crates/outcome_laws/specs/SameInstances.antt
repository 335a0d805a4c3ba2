-- The instances of a plain run and of a labelled run.
use Rattle.std.specs.Prelude.{◌≡◌, ℕ, List, map, Option, option_map}
use Rattle.wf_model.specs.declared.event.Event.{Event}
use Rattle.wf_model.specs.Grammar.{Grammar}
use Rattle.wf_model.specs.Run.{Expanded}
use Rattle.wf_flat.specs.declared.table.Inst.{Inst}
use Rattle.wf_flat.specs.Table.{Table, names_in, events_of, expansion_at, IsTableOf}
use Rattle.wf_run.specs.Runs.{Node, RunSeen, names_at, IsRunOf}

-- the module of an instance of a plain run
abbrev pub module_in : Inst → ℕ
module_in x = x.module.0

-- the names of the children of an instance of a plain run, if it is expanded
abbrev pub children_in : Grammar → Table → Inst → Option (List (List ℕ))
children_in g t x = option_map (λ (y : Expanded). y.names) (expansion_at g (names_in t.instances) x)

-- the names of the children of an instance of a labelled run, if it is expanded
abbrev pub children_of : RunSeen → Node → Option (List (List ℕ))
children_of r n = option_map (names_at r) n.children

-- A plain run and a labelled run have the same instances, in the same order of making: the same names, the same modules, and the same of them are expanded, each into children of the same names
pub record HaveSameInstances (t : Table) (r : RunSeen) : Type 0 where
  pub names : names_in t.instances ≡ r.names
  pub modules : map module_in t.instances ≡ map (λ (n : Node). n.module_no) r.nodes
  pub children : map (children_in r.grammar.core t) t.instances ≡ map (children_of r) r.nodes

-- a plain run and a labelled run of one grammar that stand for the same events have the same instances
abbrev pub SameInstancesLaw : Type 0
SameInstancesLaw =
    (events : List Event) (t : Table) (r : RunSeen) →
    events_of t ≡ events → IsTableOf r.grammar.core t → IsRunOf r events → HaveSameInstances t r
