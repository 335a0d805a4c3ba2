-- As many positions and edges are held as the production has.
use Rattle.std.proofs.Common.{◌≡◌, ◌∙◌, List, length, map, sym, ap}
use Rattle.std.proofs.lemmas.List.{length-map}
use Rattle.wf_model.specs.declared.body.Position.{Position as PositionHeld}
use Rattle.wf_model.specs.declared.body.Edge.{Edge as EdgeHeld}
use Rattle.wf_model.specs.Grammar.{Position, Production}
use Rattle.wf_model.specs.Meaning.{position_of, edge_of}

pub positions_held : (xs : List PositionHeld) (r s : Production) → map position_of xs ≡ r.positions → r ≡ s → length xs ≡ length (map (λ (q : Position). q.module_no) s.positions)
positions_held xs r s are is =
    sym (length-map xs position_of) ∙ (ap length are ∙ (ap (λ (z : Production). length z.positions) is ∙ sym (length-map s.positions (λ (q : Position). q.module_no))))

pub edges_held : (xs : List EdgeHeld) (r s : Production) → map edge_of xs ≡ r.edges → r ≡ s → length xs ≡ length s.edges
edges_held xs r s are is = sym (length-map xs edge_of) ∙ (ap length are ∙ ap (λ (z : Production). length z.edges) is)
