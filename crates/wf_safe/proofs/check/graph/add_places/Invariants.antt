use Rattle.std.proofs.Common.{◌≡◌, length, map, drop}
use Rattle.wf_model.specs.Grammar.{Position}
use Rattle.wf_model.specs.Links.{place_links}
use Rattle.wf_model.specs.Meaning.{pairs_of, position_of}
use Rattle.wf_safe.proofs.LinkGraphs.{Completes}
use Rattle.wf_safe.proofs.check.graph.add_places.Given as goal

-- the positions that are left
abbrev pub invariant-loop-k : goal.invariant-loop-k
invariant-loop-k l = record {
  count : length l.graph.items ≡ length l.initial.graph.items;
  left : Completes (place_links l.g.core (pairs_of l.deps) l.k (map (λ (q : Position). q.module_no) (map position_of (drop l.k l.positions))))
      (place_links l.g.core (pairs_of l.deps) 0 (map (λ (q : Position). q.module_no) (map position_of l.positions))) l.initial.graph.items l.graph.items;
}
