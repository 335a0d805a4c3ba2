use Rattle.std.proofs.Common.{◌≡◌, ◌++◌, take}
use Rattle.wf_export.specs.Shown.{port_lines}
use Rattle.wf_export.proofs.item_lines.add_ports.Given as goal

abbrev pub invariant-loop-port : goal.invariant-loop-port
invariant-loop-port l = l.line.items ≡ l.initial.line.items ++ port_lines l.instance (take l.port-index l.ports)
