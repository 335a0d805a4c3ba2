use Rattle.wf_run.specs.Growing.{prefix_of, AddsChildren}
use Rattle.wf_run.proofs.grow.append_children.Given as goal

abbrev pub invariant-loop-j : goal.invariant-loop-j
invariant-loop-j l = AddsChildren l.g.grammar.now.core l.p.0 (prefix_of l.parent) l.j l.initial.nodes.items l.nodes.items
