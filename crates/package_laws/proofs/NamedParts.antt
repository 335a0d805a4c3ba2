-- The parts that describe a grammar: each number is turned into the name of what has it.
use Rattle.std.specs.Prelude.{ℕ, List, [], map, get_or}
use Rattle.wf_model.specs.declared.parts.Parts.{Parts}
use Rattle.wf_model.specs.declared.parts.ModulePart.{ModulePart}
use Rattle.wf_model.specs.declared.parts.ProdPart.{ProdPart}
use Rattle.wf_model.specs.declared.parts.PosPart.{PosPart}
use Rattle.wf_model.specs.declared.parts.PortPart.{PortPart}
use Rattle.wf_model.specs.declared.parts.EdgePart.{EdgePart}
use Rattle.wf_model.specs.declared.parts.EntryPart.{EntryPart}
use Rattle.wf_model.specs.declared.parts.ExitPart.{ExitPart}
use Rattle.wf_model.specs.declared.parts.DepsPart.{DepsPart}
use Rattle.wf_model.specs.declared.parts.PairPart.{PairPart}
use Rattle.wf_model.specs.Grammar.{Grammar, Module, Position, Inner, Edge, Production, Given, module_at}
use Rattle.wf_json.specs.Canonical.{position_at, module_there, entries_of, exits_of}

-- a module, by the names of its ports
abbrev pub named_module : Module → ModulePart
named_module m = record { name = m.name; inputs = m.inputs; outputs = m.outputs }

-- a position, with the name of its module
abbrev pub named_position : Grammar → Position → PosPart
named_position g q = record { name = q.name; «module» = (module_at g q.module_no).name }

-- an input of a position, by names
abbrev pub named_input : Grammar → Production → Inner → PortPart
named_input g r i = record { pos = (position_at r i.position).name; port = get_or (module_there g r i.position).inputs i.port [] }

-- an output of a position, by names
abbrev pub named_output : Grammar → Production → Inner → PortPart
named_output g r i = record { pos = (position_at r i.position).name; port = get_or (module_there g r i.position).outputs i.port [] }

-- an edge, by names
abbrev pub named_edge : Grammar → Production → Edge → EdgePart
named_edge g r e = record { from = named_output g r e.from; to = named_input g r e.to }

-- an input of the head with the input to which it leads, by names
abbrev pub named_entry : Grammar → Production → List ℕ × Inner → EntryPart
named_entry g r e = record { port = e.0; to = named_input g r e.1 }

-- an output of the head with the output from which it comes, by names
abbrev pub named_exit : Grammar → Production → List ℕ × Inner → ExitPart
named_exit g r e = record { from = named_output g r e.1; port = e.0 }

-- a production, by names
abbrev pub named_production : Grammar → Production → ProdPart
named_production g r =
    record {
      head = (module_at g r.head).name;
      body = map (named_position g) r.positions;
      edges = map (named_edge g r) r.edges;
      entries = map (named_entry g r) (entries_of g r);
      exits = map (named_exit g r) (exits_of g r);
    }

-- a pair of an input and an output of a module, by names
abbrev pub named_ports : Module → ℕ × ℕ → PairPart
named_ports m e = record { input = get_or m.inputs e.0 []; output = get_or m.outputs e.1 [] }

-- the pairs that are given to a module, by names
abbrev pub named_deps : Grammar → Given → DepsPart
named_deps g d = record { «module» = (module_at g d.module_no).name; pairs = map (named_ports (module_at g d.module_no)) d.pairs }

-- the parts of a grammar, without earlier versions
abbrev pub named_parts : Grammar → Parts
named_parts g =
    record {
      start = (module_at g g.start).name;
      modules = map named_module g.modules;
      productions = map (named_production g) g.productions;
      deps = map (named_deps g) g.given;
      versions = [];
    }
