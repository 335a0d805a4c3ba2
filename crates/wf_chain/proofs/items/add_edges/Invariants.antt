use Rattle.std.proofs.Common.{◌≡◌, ◌++◌, map, take}
use Rattle.wf_model.specs.Meaning.{edge_of}
use Rattle.wf_chain.specs.ItemLists.{edge_held}
use Rattle.wf_chain.proofs.items.add_edges.Given as goal

abbrev pub invariant-loop-e : goal.invariant-loop-e
invariant-loop-e l = l.items.items ≡ l.initial.items.items ++ map (λ e. edge_held l.opened (edge_of e)) (take l.e-index l.edges)
